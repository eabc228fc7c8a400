use Rattle.writer.proofs.Running.{repeated_none}
use Rattle.writer.proofs.empty_point.write_empty_point.Goals as goal

pub loop-n-init : goal.loop-n-init
loop-n-init c = repeated_none c.args.order 0x7FF8_0000_0000_0000 c.args.out.now
