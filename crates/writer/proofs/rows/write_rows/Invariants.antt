-- The rows so far are written, and behind them the output is as it was. Assumes nothing.
use Rattle.std.proofs.Common.{◌≡◌, ◌++◌, length, drop}
use Rattle.meaning.specs.Table.{fetch}
use Rattle.writer.specs.Rows.{rows_bytes}
use Rattle.writer.proofs.rows.write_rows.Given as goal

abbrev pub invariant-loop-n : goal.invariant-loop-n
invariant-loop-n l =
    record {
      written : l.out ≡ rows_bytes l.buf (fetch l.table) l.order l.n ++ drop l.at l.initial.out;
      length : l.at ≡ length (rows_bytes l.buf (fetch l.table) l.order l.n);
    }
