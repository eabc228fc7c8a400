-- A header, a count and coordinates, each written into what its elders left of the output. Assumes nothing.
use Prim.Native.Nat.{ℕ, ◌+◌, ◌-◌, ◌≤◌}
use native.Mathlib.Omega.{arith}
use mathlib.Core.Path.{◌≡◌, sym, ap, ap₂, ◌∙◌}
use mathlib.Core.List.{List, ◌++◌, append_assoc}
use lib.ListN.{length, take, drop, length-append}
use borrow.Rule.Slice.PartMut.{put_mid}
use Rattle.meaning.specs.declared.Endianness.{Endianness}
use Rattle.meaning.specs.declared.RowFields.{RowFields}
use Rattle.writer.specs.Rows.{row_header, row_count, row_ordinates, row_bytes}
use Rattle.writer.proofs.Behind.{rest_starts, rest_room, rest_put}

module _ (b : List ℕ) (o : Endianness) (r : RowFields) where
  pub length_row : length (row_bytes b o r) ≡ length (row_header o r) + (length (row_count o r.kind r.count) + length (row_ordinates b o r))
  length_row =
      length-append (row_header o r) (row_count o r.kind r.count ++ row_ordinates b o r)
      ∙ ap (λ (n : ℕ). length (row_header o r) + n) (length-append (row_count o r.kind r.count) (row_ordinates b o r))

  -- the header is written
  module _ (o₀ o₁ : List ℕ) (h : ℕ) (l₁ : h ≡ length (row_header o r)) (e₁ : o₁ ≡ row_header o r ++ drop (length (row_header o r)) o₀) (room : length (row_bytes b o r) ≤ length o₀) where
    header_put : o₁ ≡ row_header o r ++ drop h o₀
    header_put = e₁ ∙ ap (λ (n : ℕ). row_header o r ++ drop n o₀) (sym l₁)

    pub count_starts : h ≤ length o₁
    count_starts = rest_starts (row_header o r) o₁ o₀ h (sym l₁) header_put

    pub count_room : length (row_count o r.kind r.count) ≤ length (take (length o₁ - h) (drop h o₁))
    count_room = rest_room (row_header o r) o₁ o₀ h (sym l₁) header_put (row_count o r.kind r.count) (omega (arith, length_row, room))

    -- and the count
    module _ (ys : List ℕ) (n : ℕ) (l₂ : n ≡ length (row_count o r.kind r.count))
        (e₂ : ys ≡ row_count o r.kind r.count ++ drop (length (row_count o r.kind r.count)) (take (length o₁ - h) (drop h o₁))) where
      abbrev pub o₂ : List ℕ
      o₂ = put_mid h (length o₁ - h) o₁ ys

      abbrev front : List ℕ
      front = row_header o r ++ row_count o r.kind r.count

      both_put : o₂ ≡ front ++ drop (h + n) o₀
      both_put = rest_put (row_header o r) o₁ o₀ h (sym l₁) header_put (row_count o r.kind r.count) ys e₂ ∙ ap (λ (m : ℕ). front ++ drop (h + m) o₀) (sym l₂)

      length_front : length front ≡ h + n
      length_front = length-append (row_header o r) (row_count o r.kind r.count) ∙ ap₂ ◌+◌ (sym l₁) (sym l₂)

      pub body_starts : h + n ≤ length o₂
      body_starts = rest_starts front o₂ o₀ (h + n) length_front both_put

      pub body_room : length (row_ordinates b o r) ≤ length (take (length o₂ - (h + n)) (drop (h + n) o₂))
      body_room = rest_room front o₂ o₀ (h + n) length_front both_put (row_ordinates b o r) (omega (arith, length_row, room))

      -- and the coordinates
      pub row_put : (zs : List ℕ) (m : ℕ) → m ≡ length (row_ordinates b o r)
          → zs ≡ row_ordinates b o r ++ drop (length (row_ordinates b o r)) (take (length o₂ - (h + n)) (drop (h + n) o₂))
          → (put_mid (h + n) (length o₂ - (h + n)) o₂ zs ≡ row_bytes b o r ++ drop (length (row_bytes b o r)) o₀) × (h + n + m ≡ length (row_bytes b o r))
      row_put zs m l₃ e₃ =
          let l : h + n + length (row_ordinates b o r) ≡ length (row_bytes b o r) = omega (arith, length_row) in (
            rest_put front o₂ o₀ (h + n) length_front both_put (row_ordinates b o r) zs e₃
                ∙ ap₂ {C = List ℕ} (λ (x : List ℕ) (k : ℕ). x ++ drop k o₀) (append_assoc (row_header o r) (row_count o r.kind r.count) (row_ordinates b o r)) l,
            ap (λ (k : ℕ). h + n + k) l₃ ∙ l,
          )
