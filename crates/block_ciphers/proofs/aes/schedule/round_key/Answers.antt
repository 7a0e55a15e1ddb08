use Rattle.std.proofs.Common.{sym, arith}
use Rattle.block_ciphers.proofs.WordBytes.{round_key-bytes_of}
use Rattle.block_ciphers.proofs.aes.schedule.round_key.Goals as goal

pub returns : goal.returns
returns c = sym (round_key-bytes_of c.args.words.now c.args.n (omega arith))
