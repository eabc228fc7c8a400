-- A count is put at the start. Assumes nothing.
use Rattle.std.proofs.Common.{arith}
use Rattle.writer.proofs.Parts.{length_counted, count_put}
use Rattle.writer.proofs.row.write_count.Goals as goal

pub write-requires : goal.write-requires
write-requires c = omega (arith, c.requires, length_counted c.args.order c.args.kind c.args.count c.in_default.not-Point)

pub returns : goal.returns
returns c = count_put c.args.order c.args.kind c.args.count c.in_default.not-Point c.write.new.s c.args.out.now c.write.ensures
