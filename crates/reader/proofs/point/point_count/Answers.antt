use Rattle.std.proofs.Common.{ap, sym, ◌∙◌, Bool, cond}
use Rattle.meaning.specs.Grammar.{is_nan}
use Rattle.reader.proofs.Nans.{none_yet, number_there, nan_there, all_there}
use Rattle.reader.proofs.point.point_count.Goals as goal

pub loop-i-init : goal.loop-i-init
loop-i-init c = let a = c.args in none_yet a.buf.now a.order a.n a.at.0

pub returns-then-not-is_nan : goal.returns-then-not-is_nan
returns-then-not-is_nan c =
    let a = c.args in
    sym (ap (λ (t : Bool). cond t 0 1) (sym c.loop-i.invariant ∙ number_there a.buf.now a.order a.n c.loop-i.i a.at.0 c.loop-i-test.true
    (ap is_nan (sym c.read.ensures.0) ∙ sym c.is_nan.ensures ∙ c.if-not-is_nan.true)))

pub loop-i-preserved : goal.loop-i-preserved
loop-i-preserved c =
    let a = c.args in
    sym (nan_there a.buf.now a.order a.n c.loop-i.i a.at.0 c.loop-i-test.true
    (ap is_nan (sym c.read.ensures.0) ∙ sym c.is_nan.ensures ∙ c.if-not-is_nan.false)) ∙ c.loop-i.invariant

pub returns : goal.returns
returns c =
    let a = c.args in
    sym (ap (λ (t : Bool). cond t 0 1) (sym c.loop-i.invariant ∙ all_there a.buf.now a.order a.n c.loop-i.i a.at.0 c.loop-i-test.false))
