-- Each way out, in the order of the tests. Assumes nothing.
use Rattle.std.proofs.Common.{sym, ap, ◌∙◌, arith, ◌+◌}
use Rattle.std.proofs.lemmas.Result.{err_from_is_err_and}
use Rattle.meaning.specs.Answer.{refusal, type_meant}
use Rattle.meaning.specs.Reading.{order_of}
use Rattle.reader.specs.Asks.{asks_of}
use Rattle.reader.proofs.Headers.{no_order, bad_order, no_code, bad_code, good_code}
use Rattle.reader.proofs.There.{there_good, there_past, num_within}
use Rattle.reader.proofs.geometry.header.Goals as goal

pub returns-in_err-there : goal.returns-in_err-there
returns-in_err-there c =
    let a = c.args in
    let p = err_from_is_err_and c.from_residual.result c.from_residual.ensures.1 in
    let (lt, e) = there_past a.buf.now a.at 1 c.in_err-there.ensures in
    rw (p.1, p.2) (ap refusal (sym e) ∙ no_order a.buf.now (asks_of a.parent) a.level a.at.0 (omega arith))

pub returns-then-byte-gt1 : goal.returns-then-byte-gt1
returns-then-byte-gt1 c =
    let a = c.args in
    let le = there_good a.buf.now a.at 1 c.in_ok-there.ensures in
    bad_order a.buf.now (asks_of a.parent) a.level a.at.0 (omega arith) c.if-byte-gt1.true

pub returns-in_err-read_u32 : goal.returns-in_err-read_u32
returns-in_err-read_u32 c =
    let a = c.args in
    let p = err_from_is_err_and c.from_residual-in_err-read_u32.result c.from_residual-in_err-read_u32.ensures.1 in
    let le = there_good a.buf.now a.at 1 c.in_ok-there.ensures in
    rw (p.1, p.2)
    (no_code a.buf.now (asks_of a.parent) a.level a.at.0 (omega arith) (omega (arith, c.if-byte-gt1.false)) c.order_of-order.result
    (c.order_of-order.ensures ∙ ap order_of c.from.ensures) _ _ c.in_err-read_u32.ensures)

pub opened-requires : goal.opened-requires
opened-requires c =
    let a = c.args in
    let w = num_within a.buf.now (record { 0 = a.at.0 + 1 }) c.order_of-order.result c.in_ok-read_u32.ensures in
    omega arith

pub returns-in_default : goal.returns-in_default
returns-in_default c =
    let a = c.args in
    let le = there_good a.buf.now a.at 1 c.in_ok-there.ensures in
    bad_code a.buf.now (asks_of a.parent) a.level a.at.0 (omega arith) (omega (arith, c.if-byte-gt1.false)) c.order_of-order.result
    (c.order_of-order.ensures ∙ ap order_of c.from.ensures) _ c.in_ok-read_u32.ensures
    (sym (ap type_meant (sym c.in_default.is) ∙ c.type_of.ensures))

pub returns : goal.returns
returns c =
    let a = c.args in
    let le = there_good a.buf.now a.at 1 c.in_ok-there.ensures in
    c.opened.ensures c.in_ok-read_u32.field-0
    ∙ good_code a.buf.now (asks_of a.parent) a.level a.at.0 (omega arith) (omega (arith, c.if-byte-gt1.false)) c.order_of-order.result
    (c.order_of-order.ensures ∙ ap order_of c.from.ensures) _ c.in_ok-read_u32.ensures c.in-Some.t
    (sym (ap type_meant (sym c.in-Some.is) ∙ c.type_of.ensures))
