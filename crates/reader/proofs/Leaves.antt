-- A LineString, ring or Point that was read: its one row. Assumes nothing.
use Prim.Native.Nat.{ℕ, suc, ◌+◌, ◌*◌, ◌-◌, ◌^◌, ◌≤◌, ◌<◌}
use native.Mathlib.Nat.{mul-one, add-zero}
use native.Mathlib.Omega.{arith}
use mathlib.Core.Path.{◌≡◌, refl, sym, ap, subst, ◌∙◌}
use mathlib.Core.Bool.{Bool, true, false, ◌&&◌, cond}
use mathlib.Core.List.{List, [], append_assoc}
use lib.ListN.{length, take, drop, length-append, length-drop}
use lib.Seq.{length-take-le, take-take}
use lib.Dec.{leb}
use borrow.Author.Tests.{leb-true, leb-false}
use Rattle.meaning.specs.declared.Endianness.{Endianness}
use Rattle.meaning.specs.declared.Dimension.{Dimension}
use Rattle.meaning.specs.declared.Dimension.TheVariants.{Xy, Xyz, Xym, Xyzm}
use Rattle.meaning.specs.declared.Kind.{Kind}
use Rattle.meaning.specs.declared.Kind.TheVariants.{Point}
use Rattle.meaning.specs.declared.RowFields.{RowFields}
use Rattle.meaning.specs.Number.{Bytes, number_at}
use Rattle.meaning.specs.Code.{same_kind, size}
use Rattle.meaning.specs.Grammar.{Header, Ordinates, Forest, empty, first, every, holds_coordinates, front, header_bytes, srid_bytes, count_bytes, ordinate_bytes, bytes, count, rings, ring_header}
use Rattle.meaning.specs.Answer.{Answer, refused, answered}
use Rattle.meaning.specs.Reading.{pieces, coordinates_in, num, header, forest}
use Rattle.meaning.specs.Table.{offset, row_of, rows, rows_in, RowFits}
use Rattle.meaning.proofs.Codes.{ne_same_kind, same_kind-true, same_kind-false}
use Rattle.meaning.proofs.Lists.{each_take, each_drop}
use Rattle.meaning.proofs.Headers.{headed}
use Rattle.meaning.proofs.Coordinates.{count_read, sized_read, length_ordinate_bytes}
use Rattle.meaning.proofs.Bodies.{count_wire}
use Rattle.meaning.proofs.Sizes.{count_size}
use Rattle.meaning.proofs.Siblings.{body_of, one_read_deep}
use Rattle.meaning.proofs.Steps.{span_good, span_past, num_good, num_past, run_good, run_past}
use Rattle.fields.proofs.Rows.{fit_a, fit_b}
use Rattle.reader.specs.declared.geometry.Head.{Head}
use Rattle.reader.specs.Asks.{head_of, Heads}
use Rattle.reader.specs.Body.{all_nan, line_body, point_body, coordinates_body}
use Rattle.reader.specs.Rows.{Lists, list_rows}
use Rattle.reader.specs.Walk.{State, row_from, whole}
use Rattle.reader.proofs.Nans.{nans_are}

pub size_range : (d : Dimension) → (2 ≤ size d) × (size d ≤ 4)
size_range Xy = omega arith
size_range Xyz = omega arith
size_range Xym = omega arith
size_range Xyzm = omega arith

pub one_at_most : (t : Bool) → cond t 0 1 ≤ 1
one_at_most true = omega arith
one_at_most false = omega arith

-- a run of any count is measured in 64 bits
pub run_fits : (d : Dimension) (n : ℕ) → n < 2 ^ 32 → 8 * size d * n < 2 ^ 64
run_fits Xy n h = omega arith
run_fits Xyz n h = omega arith
run_fits Xym n h = omega arith
run_fits Xyzm n h = omega arith

-- what the count is worth in bytes bounds it
pub count_bound : (d : Dimension) (n m : ℕ) → 8 * size d * n ≤ m → n ≤ m
count_bound Xy n m h = omega arith
count_bound Xyz n m h = omega arith
count_bound Xym n m h = omega arith
count_bound Xyzm n m h = omega arith

pub front_headed : (h : Header) (n : ℕ) → length (front h n) ≡ length (headed h) + cond (same_kind h.kind Point) 0 4
front_headed h n =
    ap length (sym (append_assoc (header_bytes h) (srid_bytes h.order h.srid) (count_bytes h n)))
    ∙ length-append (headed h) (count_bytes h n) ∙ ap (λ (m : ℕ). length (headed h) + m) (count_size h n)

-- a row by what the code has of it
pub row_is : (h : Header) (cs : List Ordinates) (kids : Forest) (at l next body end n s : ℕ)
    → at + length (front h (count h cs kids)) ≡ body → body + length (ordinate_bytes h.order cs) + length (bytes kids) ≡ end → count h cs kids ≡ n → suc (rows_in kids) ≡ s
    → row_of at l h cs kids ≡ row_from (head_of h next) (offset at) l (offset body) (offset end) n s
row_is h cs kids at l next body end n s p q r t = λ i. record {
  kind = h.kind;
  dimension = h.dimension;
  order = h.order;
  srid = (head_of h next).srid;
  level = l;
  start = offset at;
  end = offset ((ap (λ (m : ℕ). m + length (ordinate_bytes h.order cs) + length (bytes kids)) p ∙ q) i);
  count = r i;
  subtree = t i;
  body = offset (p i);
}

-- one row, listed
leaf : {S : Type 0} (list : Lists S) (s : S) (r l at e : ℕ) (h : Header) (cs : List Ordinates) (f : RowFields) → row_of at l h cs empty ≡ f
    → answered (e, r + 1, list s r f) ≡ whole list r l at s (answered (first h cs empty empty, e))
unfolding rows rows_in list_rows
leaf list s r l at e h cs f i = sym (ap (λ (g : RowFields). answered (e, r + 1, list s r g)) i)

module _ (b : List ℕ) (all : Bytes b) {S : Type 0} (list : Lists S) (s : S) (h : Header) (r l at next : ℕ) (start : next ≡ at + length (headed h)) where
  abbrev here : Answer (State S)
  here = whole list r l at s (body_of b 19 h l next)

  run_bytes : (n at' : ℕ) → 8 * size h.dimension * n ≤ length b - at' → length (take (8 * size h.dimension * n) (drop at' b)) ≡ 8 * size h.dimension * n
  run_bytes n at' le = length-take-le _ (drop at' b) (let d = length-drop at' b in omega arith)

  run_size : (n at' : ℕ) → 8 * size h.dimension * n ≤ length b - at'
      → length (ordinate_bytes h.order (coordinates_in h.order (size h.dimension) n (take (8 * size h.dimension * n) (drop at' b)))) ≡ 8 * size h.dimension * n
  run_size n at' le =
      let m = size h.dimension in
      let bs = take (8 * m * n) (drop at' b) in
      length_ordinate_bytes h.order m (coordinates_in h.order m n bs)
      (sized_read h.order m n bs (run_bytes n at' le) (each_take (λ x. x < 256) (8 * m * n) (drop at' b) (each_drop (λ x. x < 256) at' b all)))
      ∙ ap (λ (k : ℕ). 8 * m * k) (count_read h.order m n bs)

  -- LineStrings and rings
  module _ (k : holds_coordinates h.kind ≡ true) (k₁ : h.kind ≡ Point → ⊥) where
    line_away : (x y : ℕ) → refused x y ≡ num b h.order 4 next → refused x y ≡ here
    line_away x y e = rw (ne_same_kind h.kind Point k₁, ← e)

    module _ (n : ℕ) (e : answered (n, next + 4) ≡ num b h.order 4 next) where
      line_past : length b - (next + 4) < 8 * size h.dimension * n → refused 2 (next + 4) ≡ here
      line_past lt = rw (ne_same_kind h.kind Point k₁, ← e, k, run_past b (next + 4) h n lt)

      line_good : 8 * size h.dimension * n ≤ length b - (next + 4)
          → let f = row_from (head_of h next) (offset at) l (offset (next + 4)) (offset (next + 4 + 8 * size h.dimension * n)) n 1 in
          answered (next + 4 + 8 * size h.dimension * n, r + 1, list s r f) ≡ here
      unfolding forest bytes rows_in
      line_good le =
          let m = size h.dimension in
          let cs = coordinates_in h.order m n (take (8 * m * n) (drop (next + 4) b)) in
          let c : count h cs empty ≡ n = count_wire h cs empty k₁ ∙ rw k (count_read h.order m n (take (8 * m * n) (drop (next + 4) b))) in
          let f : length (front h (count h cs empty)) ≡ length (headed h) + 4 = front_headed h (count h cs empty) ∙ rw (ne_same_kind h.kind Point k₁) in
          let z = run_size n (next + 4) le in
          rw (ne_same_kind h.kind Point k₁, ← e, k, run_good b (next + 4) h n le)
          (leaf list s r l at (next + 4 + 8 * m * n) h cs _ (row_is h cs empty at l next (next + 4) (next + 4 + 8 * m * n) n 1 (omega arith) (omega arith) c refl))

  -- Points
  module _ (k : h.kind ≡ Point) where
    is_point : same_kind h.kind Point ≡ true
    is_point = ap (λ (x : Kind). same_kind x Point) k

    one_run : holds_coordinates h.kind ≡ true
    one_run = ap holds_coordinates k

    point_past : length b - next < 8 * size h.dimension → refused 2 next ≡ here
    point_past lt = rw (is_point, one_run, run_past b next h 1 (let m = mul-one (8 * size h.dimension) in omega arith))

    point_good : 8 * size h.dimension ≤ length b - next → (n : ℕ) → n ≡ cond (all_nan b h.order (size h.dimension) next) 0 1
        → let f = row_from (head_of h next) (offset at) l (offset next) (offset (next + 8 * size h.dimension)) n 1 in
        answered (next + 8 * size h.dimension, r + 1, list s r f) ≡ here
    unfolding forest bytes rows_in every pieces
    point_good le n e =
        let d = size h.dimension in
        let m : 8 * d * 1 ≡ 8 * d = mul-one (8 * d) in
        let bs = take (8 * d * 1) (drop next b) in
        let cs = coordinates_in h.order d 1 bs in
        let le₁ : 8 * d * 1 ≤ length b - next = omega arith in
        let y : take (8 * d) bs ≡ take (8 * d) (drop next b) = take-take (8 * d) (8 * d * 1) (drop next b) (omega arith) in
        let c : count h cs empty ≡ n = rw (one_run, is_point, nans_are b h.order d next (take (8 * d) bs) le y) (counted (all_nan b h.order d next) cs ∙ sym e) in
        let f : length (front h (count h cs empty)) ≡ length (headed h) + 0 = front_headed h (count h cs empty) ∙ rw is_point in
        let z = run_size 1 next le₁ in
        rw (is_point, one_run, run_good b next h 1 le₁)
        (leaf list s r l at (next + 8 * d) h cs _ (row_is h cs empty at l next next (next + 8 * d) n 1 (omega arith) (omega arith) c refl)
        ∙ ap (λ (q : ℕ). whole list r l at s (answered (first h cs empty empty, next + q))) (sym m))
      where
        counted : (t : Bool) (x : List Ordinates) → length (cond (t && true) [] x) ≡ cond t 0 (length x)
        counted true x = refl
        counted false x = refl

-- ---- in the code's terms

-- a row that ends within a readable buffer fits its words
pub row_fits : (head : Head) (at l body end n s : ℕ) → l < 64 → at ≤ 1048575 → body ≤ 1048575 → end ≤ 1048575 → n ≤ 1048575 → s ≤ 1048575
    → RowFits (row_from head (offset at) l (offset body) (offset end) n s)
row_fits head at l body end n s lv a b c d g =
    let x = row_from head (offset at) l (offset body) (offset end) n s in
    (fit_a x lv (omega arith) (omega arith), fit_b x (omega arith) (omega arith) (omega arith))

-- whether n bytes are there from an offset on
bytes_there : (b : List ℕ) (at n : ℕ) {R : Type 0} → (length b - at < n → R) → (n ≤ length b - at → R) → R
bytes_there b at n {R} past good = go (leb n (length b - at)) refl
  where
    go : (c : Bool) → leb n (length b - at) ≡ c → R
    go true e = good (leb-true n (length b - at) e)
    go false e = past (leb-false n (length b - at) e)

-- what a body of coordinates can come to, by the bytes that are there
line_cases : (b : List ℕ) (hd : Head) (P : Answer ((ℕ × ℕ) × ℕ) → Type 0) → let n = number_at hd.order 4 b hd.next.0 in let start = hd.next.0 + 4 in
    (num b hd.order 4 hd.next.0 ≡ refused 2 hd.next.0 → P (refused 2 hd.next.0))
    → (num b hd.order 4 hd.next.0 ≡ answered (n, start) → length b - start < 8 * size hd.dimension * n → P (refused 2 start))
    → (num b hd.order 4 hd.next.0 ≡ answered (n, start) → 4 ≤ length b - hd.next.0 → 8 * size hd.dimension * n ≤ length b - start → P (answered ((n, start), start + 8 * size hd.dimension * n)))
    → P (line_body b hd)
line_cases b hd P none few all =
    let n = number_at hd.order 4 b hd.next.0 in
    let start = hd.next.0 + 4 in
    bytes_there b hd.next.0 4
    (λ lt. let e = num_past b hd.next.0 hd.order 4 lt in rw e (none e))
    (λ le.
    let e = num_good b hd.next.0 hd.order 4 le in
    rw e
    (bytes_there b start (8 * size hd.dimension * n) (λ lt. rw (span_past b start (8 * size hd.dimension * n) lt) (few e lt)) (λ le'. rw (span_good b start (8 * size hd.dimension * n) le') (all e le le'))))

point_cases : (b : List ℕ) (hd : Head) (P : Answer ((ℕ × ℕ) × ℕ) → Type 0) → let bytes = 8 * size hd.dimension in
    (length b - hd.next.0 < bytes → P (refused 2 hd.next.0))
    → (bytes ≤ length b - hd.next.0 → P (answered ((cond (all_nan b hd.order (size hd.dimension) hd.next.0) 0 1, hd.next.0), hd.next.0 + bytes)))
    → P (point_body b hd)
point_cases b hd P few all =
    bytes_there b hd.next.0 (8 * size hd.dimension)
    (λ lt. rw (span_past b hd.next.0 (8 * size hd.dimension) lt) (few lt))
    (λ le. rw (span_good b hd.next.0 (8 * size hd.dimension) le) (all le))

-- each way that a line's body comes out, in the code's terms
module _ (b : List ℕ) (hd : Head) (m n : ℕ) (size_is : m ≡ size hd.dimension) (e : answered (n, hd.next.0 + 4) ≡ num b hd.order 4 hd.next.0) where
  pub line_few : length b - (hd.next.0 + 4) < 8 * m * n → refused 2 (hd.next.0 + 4) ≡ line_body b hd
  line_few lt = rw (← e, ← size_is, span_past b (hd.next.0 + 4) (8 * m * n) lt)

  pub line_all : 8 * m * n ≤ length b - (hd.next.0 + 4) → answered ((n, hd.next.0 + 4), hd.next.0 + 4 + 8 * m * n) ≡ line_body b hd
  line_all le = rw (← e, ← size_is, span_good b (hd.next.0 + 4) (8 * m * n) le)

pub point_few : (b : List ℕ) (hd : Head) (m : ℕ) → m ≡ size hd.dimension → length b - hd.next.0 < 8 * m → refused 2 hd.next.0 ≡ point_body b hd
point_few b hd m e lt = rw (← e, span_past b hd.next.0 (8 * m) lt)

pub point_all : (b : List ℕ) (hd : Head) (m n : ℕ) → m ≡ size hd.dimension → n ≡ cond (all_nan b hd.order m hd.next.0) 0 1 → 8 * m ≤ length b - hd.next.0
    → answered ((n, hd.next.0), hd.next.0 + 8 * m) ≡ point_body b hd
point_all b hd m n e i le = rw (← e, span_good b hd.next.0 (8 * m) le, i)

-- the sizes of a body
abbrev pub Sizes : List ℕ → Head → Answer ((ℕ × ℕ) × ℕ) → Type 0
Sizes b hd (refused x y) = Unit
Sizes b hd (answered ((n, start), end)) = (hd.next.0 ≤ start) × (hd.next.0 + 1 ≤ end) × (start ≤ end) × (end ≤ length b) × (n ≤ length b)

pub line_sizes : (b : List ℕ) (hd : Head) → Sizes b hd (line_body b hd)
line_sizes b hd =
    line_cases b hd (Sizes b hd) (λ e. tt) (λ e lt. tt)
    (λ e four le. let n = count_bound hd.dimension (number_at hd.order 4 b hd.next.0) _ le in (omega arith, omega arith, omega arith, omega arith, omega arith))

pub point_sizes : (b : List ℕ) (hd : Head) → Sizes b hd (point_body b hd)
point_sizes b hd =
    point_cases b hd (Sizes b hd) (λ lt. tt)
    (λ le. let few = size_range hd.dimension in let one = one_at_most (all_nan b hd.order (size hd.dimension) hd.next.0) in (omega arith, omega arith, omega arith, omega arith, omega arith))

pub leaf_sizes : (b : List ℕ) (hd : Head) → Sizes b hd (coordinates_body b hd)
leaf_sizes b hd = go (same_kind hd.kind Point)
  where
    go : (c : Bool) → Sizes b hd (cond c (point_body b hd) (line_body b hd))
    go true = point_sizes b hd
    go false = line_sizes b hd

-- the one row of a body with these sizes
pub leaf_fits : (b : List ℕ) (head : Head) (row l at n start end : ℕ) → Sizes b head (answered ((n, start), end)) → row ≤ at → at ≤ head.next.0 → length b ≤ 1048575 → l ≤ 18
    → (row ≤ row + 1) × (row + 1 ≤ end) × RowFits (row_from head (offset at) l (offset start) (offset end) n (row + 1 - row))
leaf_fits b head row l at n start end z p q short lv = (
  omega arith,
  omega (arith, z.1),
  row_fits head at l start end n (row + 1 - row) (omega arith) (omega (arith, z.1, z.3)) (omega (arith, z.2, z.3)) (omega (arith, z.3)) (omega (arith, z.4)) (omega arith),
)

module _ (b : List ℕ) (all : Bytes b) {S : Type 0} (list : Lists S) (s : S) (r l at : ℕ) (head : Head) (h : Header) (g : Heads h at head) where
  abbrev all_of_it : Head → Answer (State S)
  all_of_it hd = whole list r l at s (body_of b 19 h l hd.next.0)

  -- a body's one row, listed
  abbrev pub closing : Head → Answer ((ℕ × ℕ) × ℕ) → Answer (State S)
  closing hd (refused x y) = refused x y
  closing hd (answered ((n, start), end)) = answered (end, r + 1, list s r (row_from hd (offset at) l (offset start) (offset end) n (r + 1 - r)))

  one : r + 1 - r ≡ 1
  one = omega arith

  pub line_whole : holds_coordinates head.kind ≡ true → (head.kind ≡ Point → ⊥) → closing head (line_body b head) ≡ all_of_it head
  line_whole k k₁ =
      subst (λ hd. closing hd (line_body b hd) ≡ all_of_it hd) g.same
      (line_cases b (head_of h head.next.0) (λ A. closing (head_of h head.next.0) A ≡ all_of_it head) (λ e. line_away b all list s h r l at head.next.0 g.behind k' k₁' 2 head.next.0 (sym e))
      (λ e lt. line_past b all list s h r l at head.next.0 g.behind k' k₁' _ (sym e) lt)
      (λ e four le. rw one (line_good b all list s h r l at head.next.0 g.behind k' k₁' _ (sym e) le)))
    where
      k' : holds_coordinates h.kind ≡ true
      k' = ap (λ (x : Head). holds_coordinates x.kind) g.same ∙ k

      k₁' : h.kind ≡ Point → ⊥
      k₁' e = k₁ (sym (ap (λ (x : Head). x.kind) g.same) ∙ e)

  pub point_whole : head.kind ≡ Point → closing head (point_body b head) ≡ all_of_it head
  point_whole k =
      let k' : h.kind ≡ Point = ap (λ (x : Head). x.kind) g.same ∙ k in
      subst (λ hd. closing hd (point_body b hd) ≡ all_of_it hd) g.same
      (point_cases b (head_of h head.next.0) (λ A. closing (head_of h head.next.0) A ≡ all_of_it head) (λ lt. point_past b all list s h r l at head.next.0 g.behind k' lt)
      (λ le. rw one (point_good b all list s h r l at head.next.0 g.behind k' le _ refl)))

  pub leaf_whole : holds_coordinates head.kind ≡ true → closing head (coordinates_body b head) ≡ all_of_it head
  leaf_whole k = go (same_kind head.kind Point) refl
    where
      go : (c : Bool) → same_kind head.kind Point ≡ c → closing head (cond c (point_body b head) (line_body b head)) ≡ all_of_it head
      go true e = point_whole (same_kind-true head.kind Point e)
      go false e = line_whole k (same_kind-false head.kind Point e)

-- a ring opens with no bytes of its own,
pub ring_heads : {o : Endianness} {d : Dimension} {at : ℕ} {head : Head} → head ≡ head_of (ring_header o d) at → Heads (ring_header o d) at head
ring_heads {o} {d} {at} e = record { same = ap (λ (x : Head). head_of (ring_header o d) x.next.0) e ∙ sym e; behind = ap (λ (x : Head). x.next.0) e ∙ sym (add-zero at) }

-- and is all body
pub ring_read : (b : List ℕ) → Bytes b → {S : Type 0} (list : Lists S) (s : S) (r l at : ℕ) (o : Endianness) (d : Dimension)
    → whole list r l at s (body_of b 19 (ring_header o d) l at) ≡ whole list r l at s (forest b 19 1 (rings o d) l at)
unfolding header
ring_read b all list s r l at o d = ap (whole list r l at s) (sym (one_read_deep b all (rings o d) l at (omega arith)))

pub ring_whole : (b : List ℕ) → Bytes b → {S : Type 0} (list : Lists S) (s : S) (r l : ℕ) {o : Endianness} {d : Dimension} {at : ℕ} {head : Head} → head ≡ head_of (ring_header o d) at
    → whole list r l at s (body_of b 19 (ring_header o d) l head.next.0) ≡ whole list r l at s (forest b 19 1 (rings o d) l at)
ring_whole b all list s r l {o} {d} {at} e = ap (λ (x : Head). whole list r l at s (body_of b 19 (ring_header o d) l x.next.0)) e ∙ ring_read b all list s r l at o d
