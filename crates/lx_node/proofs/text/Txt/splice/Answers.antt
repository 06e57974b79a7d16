use Rattle.std.proofs.Common.{rules, ◌≡◌, ◌∙◌, ◌+◌, ◌<◌, ◌≤◌, ◌^◌, ◌++◌, ap, sym, subst, length, take, drop, chars, string_bytes, IsUtf8, arith}
use Rattle.lx_node.specs.Counted.{AreCounted}
use Rattle.lx_node.specs.Cuts.{Cuts}
use Rattle.lx_node.specs.Units.{units}
use Rattle.lx_node.proofs.CodeUnits.{units-three, units-le_bytes}
use Rattle.lx_node.proofs.Cuts.{cut-within, cut-start, cut-end, chars-spliced}
use Rattle.lx_node.proofs.text.Txt.splice.Goals as goal
use Rattle.lx_node.proofs.text.Txt.splice.Goals.{After-count_piece-gone}

-- the text is one in bytes, and where it is cut in characters
utf8 : (c : After-count_piece-gone) → IsUtf8 (string_bytes c.self.inside.text)
utf8 c = subst (λ bs. IsUtf8 bs) c.as_str.ensures.value c.as_str.utf8

cuts : (c : After-count_piece-gone)
    → Cuts c.args.front c.args.piece c.requires.before c.requires.within c.requires.behind (chars (string_bytes c.self.inside.text))
cuts c =
    subst (λ text. Cuts c.args.front c.args.piece c.requires.before c.requires.within c.requires.behind text) (sym c.self.view_is)
    c.requires.cuts

inside : (c : After-count_piece-gone) → c.args.front + c.args.piece ≤ length (string_bytes c.self.inside.text)
inside c =
    cut-within (string_bytes c.self.inside.text) (utf8 c) c.args.front c.args.piece c.requires.before c.requires.within c.requires.behind (cuts c)

pub overflow_add-front : goal.overflow_add-front
overflow_add-front c =
    let i : c.args.front + c.args.piece ≤ length (string_bytes c.self.inside.text) = inside (goal.at.overflow_add-front c).After-count_piece-gone in
    omega (arith, i, ap length c.as_str.ensures.value, c.as_str.type_inv.0)

pub replace_range-requires-clause-in_bounds : goal.replace_range-requires-clause-in_bounds
replace_range-requires-clause-in_bounds c =
    let i : c.args.front + c.args.piece ≤ length (string_bytes c.self.inside.text) =
    inside (goal.at.replace_range-requires-clause-in_bounds c).After-count_piece-gone in
    search (rules, i)

pub replace_range-requires-clause-start_boundary : goal.replace_range-requires-clause-start_boundary
replace_range-requires-clause-start_boundary c =
    let at = (goal.at.replace_range-requires-clause-start_boundary c).After-count_piece-gone in
    let b = cut-start (string_bytes c.self.inside.text) (utf8 at) c.args.front c.args.piece c.requires.before c.requires.within c.requires.behind (cuts at) in
    (b.0, λ some. b.1)

pub replace_range-requires-clause-end_boundary : goal.replace_range-requires-clause-end_boundary
replace_range-requires-clause-end_boundary c =
    let at = (goal.at.replace_range-requires-clause-end_boundary c).After-count_piece-gone in
    let b = cut-end (string_bytes c.self.inside.text) (utf8 at) c.args.front c.args.piece c.requires.before c.requires.within c.requires.behind (cuts at) in
    (b.0, λ some. b.1)

pub invariant_of-self-2 : goal.invariant_of-self-2
invariant_of-self-2 c =
    let at = (goal.at.invariant_of-self-2 c).After-count_piece-gone in
    let old = string_bytes c.self.inside.text in
    let before = c.requires.before in
    let within = c.requires.within in
    let behind = c.requires.behind in
    let new = chars c.args.new.now in
    let bytes : string_bytes c.replace_range.new.self ≡ (take c.args.front old ++ c.args.new.now) ++ drop (c.args.front + c.args.piece) old = search rules in
    let text : chars (string_bytes c.replace_range.new.self) ≡ before ++ new ++ behind =
    ap chars bytes ∙ chars-spliced old (utf8 at) c.args.front c.args.piece before within behind (cuts at) c.args.new.now c.utf8.new in
    let gone : AreCounted c.count_piece-gone.result within =
    c.count_piece-gone.ensures before within behind
    (subst (λ bs. Cuts c.args.front c.args.piece before within behind (chars bs)) (sym c.as_str.ensures.value) (cuts at)) in
    let few : units (before ++ new ++ behind) < 2 ^ 64 =
    omega (
      arith,
      units-three before new behind,
      units-three before within behind,
      ap units (cuts at).whole,
      units-le_bytes old (utf8 at),
      units-le_bytes c.args.new.now c.utf8.new,
      ap length c.as_str.ensures.value,
      c.as_str.type_inv.1,
      c.well_formed.1.1.1.0.1,
    ) in
    subst (AreCounted c.spliced-self-inside.result) (sym text)
    (c.spliced-self-inside.ensures before within new behind (subst (AreCounted c.self.inside.counts) (cuts at).whole c.self.invariant) gone c.count.ensures few)

pub returns-clause-spliced : goal.returns-clause-spliced
returns-clause-spliced c = λ before within behind cut.
    let at = (goal.at.returns-clause-spliced c).After-count_piece-gone in
    let old = string_bytes c.self.inside.text in
    let bytes : string_bytes c.replace_range.new.self ≡ (take c.args.front old ++ c.args.new.now) ++ drop (c.args.front + c.args.piece) old = search rules in
    ap chars bytes
    ∙ chars-spliced old (utf8 at) c.args.front c.args.piece before within behind
    (subst (λ text. Cuts c.args.front c.args.piece before within behind text) (sym c.self.view_is) cut)
    c.args.new.now c.utf8.new
