use Rattle.std.proofs.Common.{sym, ap, length}
use Rattle.std.proofs.lemmas.Str.{encodes-chars}
use Rattle.lx_text.proofs.bytes.byte_length.Goals as goal

pub returns : goal.returns
returns c = ap length (sym (encodes-chars c.args.text.now c.utf8.text))
