use Rattle.std.proofs.Common.{◌≡◌, ◌==◌, ◌∙◌, sym, ap, ℕ, ◌<◌, List, [], ◌∷◌, length, encode_utf8_all, arith}
use Rattle.std.proofs.lemmas.Str.{length-le-encodes}
use Rattle.lx_node.proofs.text.Txt.is_empty.Goals as goal

-- a text has bytes exactly where it has characters
bytes_if_chars : (cs bs : List ℕ) → encode_utf8_all cs ≡ bs → (length bs == 0) ≡ (length cs == 0)
bytes_if_chars [] bs e = ap (λ xs. length xs == 0) (sym e)
bytes_if_chars (c ∷ cs) bs e =
    let some : 0 < length bs = omega (arith, length-le-encodes (c ∷ cs), ap length e) in
    grind (arith, some)

pub returns : goal.returns
returns c =
    c.is_empty.ensures ∙ bytes_if_chars c.args.self.now c.as_str.result.now (sym c.as_str.ensures.bytes)
