use Rattle.std.proofs.Common.{ℕ, ◌≡◌, ◌++◌, ◌<◌, List, length, drop, ap, sym, ◌∙◌, true, false, refl, arith}
use denote.Enum.Bare.{sameb}
use Rattle.meaning.specs.contracts.Endianness.{the_type}
use Rattle.meaning.specs.declared.Endianness.{Endianness}
use Rattle.meaning.specs.declared.Endianness.TheVariants.{BigEndian, LittleEndian}
use Rattle.meaning.specs.Grammar.{ordinate_bytes}
use Rattle.meaning.specs.Reading.{coordinates_in}
use Rattle.meaning.proofs.Lists.{each_at}
use Rattle.writer.proofs.Running.{copied, swapped}
use Rattle.writer.proofs.coords.write_coordinates.Goals as goal

same_order : (from order : Endianness) → true ≡ sameb the_type from order → from ≡ order
same_order BigEndian BigEndian e = refl
same_order LittleEndian LittleEndian e = refl
same_order LittleEndian BigEndian e = cc
same_order BigEndian LittleEndian e = cc

other_order : (from order : Endianness) → false ≡ sameb the_type from order → from ≡ order → ⊥
other_order BigEndian BigEndian e p = cc
other_order LittleEndian LittleEndian e p = cc
other_order LittleEndian BigEndian e p = cc
other_order BigEndian LittleEndian e p = cc

pub returns-then-eq : goal.returns-then-eq
returns-then-eq c =
    let part = c.args.part.now in
    let o = same_order c.args.from c.args.order (sym c.if-eq.true ∙ c.eq.ensures) in
    λ s n l.
    ap (λ (x : List ℕ). x ++ drop (length part) c.args.out.now)
    (c.copy_from_slice.ensures.after
    ∙ copied c.args.from s n part l (each_at (λ b. b < 256) part 0 (λ i. omega (arith, c.type_inv.part i)))
    ∙ ap (λ (e : Endianness). ordinate_bytes e (coordinates_in c.args.from s n part)) o)

pub returns-else-eq : goal.returns-else-eq
returns-else-eq c =
    let part = c.args.part.now in
    let d = other_order c.args.from c.args.order (sym c.if-eq.false ∙ c.eq.ensures) in
    λ s n l.
    c.swap.ensures
    ∙ ap (λ (x : List ℕ). x ++ drop (length part) c.args.out.now)
    (swapped c.args.from c.args.order d s n part l (each_at (λ b. b < 256) part 0 (λ i. omega (arith, c.type_inv.part i))))
