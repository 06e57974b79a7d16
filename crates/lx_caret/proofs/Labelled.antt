-- Of which kind links and blocks are.
use Rattle.std.proofs.Common.{◌≡◌, ◌≢◌, ◌∙◌, ℕ, true, false, Some, sym, ap, subst}
use Rattle.lx_node.specs.Kinds.{is_link, is_text_block}
use Rattle.lx_node.specs.declared.kind.Kind.{Kind}
use Rattle.lx_node.specs.declared.kind.Kind.TheVariants.{Root}
use Rattle.lx_forest.specs.Forest.{Forest}
use Rattle.lx_forest.specs.Lookups.{has, kind_of}
use Rattle.lx_blocks.specs.Blocks.{is_at, passes}
use Rattle.lx_blocks.proofs.Blocked.{kind_there}

-- a link is there, and isn't the root
pub link_there : (f : Forest) (k : ℕ) → is_at is_link f k ≡ true → has k f ≡ true
link_there f k so = kind_there is_link f k so

pub link_below : (f : Forest) (k : ℕ) → is_at is_link f k ≡ true → kind_of f k ≢ Some Root
unfolding is_link
link_below f k so is = let no : false ≡ true = sym (ap (passes is_link) is) ∙ so in absurd (cc)

-- neither is a block
pub block_other : (kind : Kind) → is_text_block kind ≡ true → kind ≢ Root
unfolding is_text_block
block_other kind so is = let P : Kind → Type 0 = λ x. is_text_block x ≡ true in let h : false ≡ true = subst P is so in cc
