use Rattle.std.proofs.Common.{◌≤◌, lit≤, rules}
use Rattle.rx_io.proofs.memory.SliceSourceSource.TheImpl.Goals as goal

-- It counts no read.
pub read-tells : goal.read-tells
read-tells g c = let uncounted : 0 ≤ 1 = lit≤ tt in search rules
