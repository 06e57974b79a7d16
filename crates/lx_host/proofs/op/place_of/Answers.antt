use Rattle.std.proofs.Common.{refl, sym, ◌∙◌}
use Rattle.lx_host.proofs.Attributes.{passed_none, passed_more, stands_here, belongs_here, belongs_behind}
use Rattle.lx_host.proofs.op.place_of.Goals as goal

pub returns-in-Less : goal.returns-in-Less
returns-in-Less c =
    let e = sym c.cmp.ensures ∙ c.in-Less.is in
    belongs_here c.args.name _ _ c.index-attributes-at.result c.loop-at-test.true c.index-attributes-at.is c.loop-at.invariant
    (rw (c.word.ensures, c.word-in-loop-at.ensures) at e)

pub returns-in-Equal : goal.returns-in-Equal
returns-in-Equal c =
    let e = sym c.cmp.ensures ∙ c.in-Equal.is in
    stands_here c.args.name _ _ c.index-attributes-at.result c.loop-at-test.true c.index-attributes-at.is c.loop-at.invariant
    (rw (c.word.ensures, c.word-in-loop-at.ensures) at e)

pub loop-at-init : goal.loop-at-init
loop-at-init c = passed_none c.args.name c.args.attributes.now

pub loop-at-preserved : goal.loop-at-preserved
loop-at-preserved c =
    let e = sym c.cmp.ensures ∙ c.in-Greater.is in
    passed_more c.args.name _ _ c.index-attributes-at.result c.loop-at-test.true c.index-attributes-at.is c.loop-at.invariant
    (rw (c.word.ensures, c.word-in-loop-at.ensures) at e)

pub returns : goal.returns
returns c = belongs_behind c.args.name _ _ _ c.loop-at-test.false refl c.loop-at.invariant
