use Rattle.std.proofs.Common.{◌≡◌, ◌∙◌, ℕ, Bool, false, eqb, List, [], ◌∷◌, length, refl, sym, subst, arith}
use Rattle.lx_draft.specs.Working.{Working}
use Rattle.lx_edit.specs.Standing.{Does}
use Rattle.lx_blocks.specs.Ranges.{at_anchor}
use Rattle.lx_clip.specs.Pasting.{placed_at, placed}
use Rattle.lx_clip.proofs.pasting.place.Goals as goal

some_placed : (inline : Bool) (keys : List ℕ) (w : Working) → eqb (length keys) 0 ≡ false → placed inline keys w ≡ at_anchor (placed_at inline keys) w
some_placed inline [] w some = absurd (grind (arith, some))
some_placed inline (k ∷ ks) w some = refl

pub returns : goal.returns
returns c =
    subst (λ whole. Does whole c.place_at.new.draft c.place_at.result)
    (sym (some_placed c.args.inline c.args.keys.now c.args.draft.now (grind (arith, c.is_empty.ensures, c.if-is_empty.false))
    ∙ c.in_ok-range.ensures.ok (placed_at c.args.inline c.args.keys.now)))
    (c.place_at.ensures c.in_ok-range.range.format)
