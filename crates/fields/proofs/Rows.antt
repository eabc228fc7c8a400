-- What a row has to show, so that its words can be made. Assumes nothing.
use Prim.Native.Nat.{◌<◌}
use lib.Dec.{lit<}
use Rattle.meaning.specs.declared.RowFields.{RowFields}
use Rattle.meaning.specs.Table.{fields_a, fields_b, Fit}
use Rattle.meaning.proofs.Codes.{kind_below}
use Rattle.meaning.proofs.Fits.{dimension_below, order_below, bit_below}

pub fit_a : (r : RowFields) → r.level < 0x40 → r.start.0 < 0x10_0000 → r.end.0 < 0x10_0000 → Fit (fields_a r)
fit_a r l s e = (kind_below r.kind, (dimension_below r.dimension, (order_below r.order, (bit_below r.srid, (l, (lit< tt, (s, (e, tt))))))))

pub fit_b : (r : RowFields) → r.count < 0x10_0000 → r.subtree < 0x10_0000 → r.body.0 < 0x10_0000 → Fit (fields_b r)
fit_b r c n b = (c, (n, (b, (lit< tt, tt))))
