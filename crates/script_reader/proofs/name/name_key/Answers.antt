-- Each number on the way is below 256 to the power of the bytes so far.
use Rattle.std.proofs.Common.{arith}
use Rattle.script_reader.proofs.Keys.{key_fits}
use Rattle.script_reader.proofs.name.name_key.Goals as goal

pub overflow_mul-key : goal.overflow_mul-key
overflow_mul-key c =
    let fits = key_fits c.loop-byte.key 0 c.loop-byte.byte-index c.loop-byte.invariant.2 (omega arith) (omega (arith, c.loop-byte-test.true, c.if-word-gt8.false)) in
    omega (arith, fits)

pub overflow_add-key : goal.overflow_add-key
overflow_add-key c =
    let fits = key_fits c.loop-byte.key c.from.result c.loop-byte.byte-index c.loop-byte.invariant.2 (omega (arith, c.type_inv.word c.loop-byte.byte-index, c.from.ensures)) (omega (arith, c.loop-byte-test.true, c.if-word-gt8.false)) in
    omega (arith, fits)
