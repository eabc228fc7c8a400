use Rattle.std.proofs.Common.{sym, ap, subst, ◌∙◌, arith}
use Rattle.std.proofs.lemmas.Result.{err_from_is_err_and}
use Rattle.reader.proofs.Known.{bytes_known}
use Rattle.reader.proofs.Leaves.{Sizes, leaf_sizes, leaf_fits, closing, leaf_whole}
use Rattle.reader.proofs.opened.leaf.Goals as goal

pub returns-in_err-body : goal.returns-in_err-body
returns-in_err-body g c h heads =
    let a = c.args in
    let o = a.opened in
    let b = bytes_known a.buf.now c.type_inv.buf in
    let p = err_from_is_err_and c.from_residual.result c.from_residual.ensures.1 in
    rw (p.1, p.2)
    (ap (closing a.buf.now b g.R.Rows.listed a.rows.now o.spot.row.0 o.level o.spot.at.0 o.head h heads o.head) c.in_err-body.ensures
    ∙ leaf_whole a.buf.now b g.R.Rows.listed a.rows.now o.spot.row.0 o.level o.spot.at.0 o.head h heads c.requires.3)

pub overflow_add-opened : goal.overflow_add-opened
overflow_add-opened g c =
    let o = c.args.opened in
    let z = subst (Sizes c.args.buf.now o.head) (sym c.in_ok-body.ensures) (leaf_sizes c.args.buf.now o.head) in
    omega (arith, z.1, z.3, o.spot.rows)

pub close-requires : goal.close-requires
close-requires g c =
    let a = c.args in
    let o = a.opened in
    let z = subst (Sizes a.buf.now o.head) (sym c.in_ok-body.ensures) (leaf_sizes a.buf.now o.head) in
    leaf_fits a.buf.now o.head o.spot.row.0 o.level o.spot.at.0 _ _ _ z o.spot.rows c.requires.1 c.requires.0 c.requires.2

pub returns : goal.returns
returns g c h heads =
    let a = c.args in
    let o = a.opened in
    let b = bytes_known a.buf.now c.type_inv.buf in
    rw (c.close.ensures.0, c.close.ensures.1, c.close.ensures.2)
    (ap (closing a.buf.now b g.R.Rows.listed a.rows.now o.spot.row.0 o.level o.spot.at.0 o.head h heads o.head) c.in_ok-body.ensures
    ∙ leaf_whole a.buf.now b g.R.Rows.listed a.rows.now o.spot.row.0 o.level o.spot.at.0 o.head h heads c.requires.3)
