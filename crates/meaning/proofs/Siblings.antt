-- Siblings one after the other: their bytes, rows and readings, one geometry at a time. Assumes nothing.
use Prim.Native.Nat.{ℕ, suc, ◌+◌}
use native.Mathlib.Nat.{add-zero}
use native.Mathlib.Omega.{arith}
use mathlib.Core.Path.{◌≡◌, refl, sym, ap, ap₂, ◌∙◌}
use mathlib.Core.Bool.{cond}
use mathlib.Core.List.{List, ◌∷◌, ◌++◌, append_assoc}
use lib.ListN.{length, length-append}
use Rattle.meaning.specs.declared.RowFields.{RowFields}
use Rattle.meaning.specs.Number.{Bytes}
use Rattle.meaning.specs.Grammar.{Header, Ordinates, Forest, empty, first, bytes, front, holds_coordinates, count, ordinate_bytes, Place, inside}
use Rattle.meaning.specs.Answer.{Answer, refused, answered}
use Rattle.meaning.specs.Reading.{Reader, after, give, header, count_of, run, forest}
use Rattle.meaning.specs.Table.{rows_in, row_of, rows}
use Rattle.meaning.proofs.Levels.{Enough, enough_more, forest_same}

-- the siblings of one forest, then those of another
unfoldable pub graft : Forest → Forest → Forest
graft empty u = u
graft (first h cs kids rest) u = first h cs kids (graft rest u)

pub rows_in_graft : (t u : Forest) → rows_in (graft t u) ≡ rows_in t + rows_in u
unfolding graft rows_in
rows_in_graft empty u = omega arith
rows_in_graft (first h cs kids rest) u = omega (arith, rows_in_graft rest u)

-- a geometry's end, and that of the siblings behind it
end_of : (at l : ℕ) (h : Header) (cs : List Ordinates) (kids rest : Forest) → at + length (bytes (first h cs kids rest)) ≡ (row_of at l h cs kids).end.0 + length (bytes rest)
unfolding bytes
end_of at l h cs kids rest =
    let e₁ = length-append (front h (count h cs kids)) (ordinate_bytes h.order cs ++ (bytes kids ++ bytes rest)) in
    let e₂ = length-append (ordinate_bytes h.order cs) (bytes kids ++ bytes rest) in
    let e₃ = length-append (bytes kids) (bytes rest) in
    omega arith

pub rows_graft : (t u : Forest) (at l : ℕ) → rows at l (graft t u) ≡ rows at l t ++ rows (at + length (bytes t)) l u
unfolding graft rows bytes
rows_graft empty u at l = ap (λ (n : ℕ). rows n l u) (sym (add-zero at))
rows_graft (first h cs kids rest) u at l =
    let r = row_of at l h cs kids in
    let k = rows r.body.0 (suc l) kids in
    ap (λ (rs : List RowFields). r ∷ rs)
    (ap (λ (rs : List RowFields). k ++ rs) (rows_graft rest u r.end.0 l ∙ ap (λ (n : ℕ). rows r.end.0 l rest ++ rows n l u) (sym (end_of at l h cs kids rest)))
    ∙ sym (append_assoc k (rows r.end.0 l rest) (rows (at + length (bytes (first h cs kids rest))) l u)))

pub length_rows : (t : Forest) (at l : ℕ) → length (rows at l t) ≡ rows_in t
unfolding rows rows_in
length_rows empty at l = refl
length_rows (first h cs kids rest) at l =
    let r = row_of at l h cs kids in
    ap suc (length-append (rows r.body.0 (suc l) kids) (rows r.end.0 l rest) ∙ ap₂ ◌+◌ (length_rows kids r.body.0 (suc l)) (length_rows rest r.end.0 l))

-- ---- reading

after_then : {A B C : Type 0} (x : Answer (A × ℕ)) (f : A → Reader C) (g : A → Reader B) (k : B → Reader C) → ((z : A × ℕ) → f z.0 z.1 ≡ after (g z.0 z.1) k) → after x f ≡ after (after x g) k
after_then (refused n p) f g k h = refl
after_then (answered z) f g k h = h z

module _ (b : List ℕ) where
  -- what follows a header, up to the geometry's end
  abbrev pub body_of : ℕ → Header → ℕ → Reader Forest
  body_of d h l at =
      after (count_of b h at) (λ c at₁.
      after (run b h (cond (holds_coordinates h.kind) c 0) at₁) (λ cs at₂.
      after (forest b d (cond (holds_coordinates h.kind) 0 c) (inside h) (suc l) at₂) (λ kids. give (first h cs kids empty))))

  pub one_read : (d : ℕ) (p : Place) (l at : ℕ) → forest b (suc d) 1 p l at ≡ after (header b p l at) (λ h. body_of d h l)
  unfolding forest
  one_read d p l at = refl

  -- one geometry, and then the others
  pub more_read : (d n : ℕ) (p : Place) (l at : ℕ)
      → forest b (suc d) (suc n) p l at ≡ after (forest b (suc d) 1 p l at) (λ t at₁. after (forest b (suc d) n p l at₁) (λ u. give (graft t u)))
  unfolding forest graft
  more_read d n p l at =
      after_then (header b p l at) _ _ others (λ h.
      after_then (count_of b h.0 h.1) _ _ others (λ c.
      after_then (run b h.0 (cond (holds_coordinates h.0.kind) c.0 0) c.1) _ _ others (λ cs.
      after_then (forest b d (cond (holds_coordinates h.0.kind) 0 c.0) (inside h.0) (suc l) cs.1) _ _ others (λ kids. refl))))
    where
      others : Forest → Reader Forest
      others t at₁ = after (forest b (suc d) n p l at₁) (λ u. give (graft t u))

  -- nineteen levels are enough below a header too
  pub one_read_deep : Bytes b → (p : Place) (l at : ℕ) → Enough p l 19 → forest b 19 1 p l at ≡ after (header b p l at) (λ h. body_of 19 h l)
  one_read_deep all p l at g = forest_same b all 19 20 1 p l at g (enough_more p l 19 g) ∙ one_read 19 p l at
