-- Where the block of a node is.
use Rattle.std.proofs.Common.{◌≡◌, ◌≢◌, ◌∙◌, ℕ, Bool, true, false, eqb, List, [], ◌∷◌, Option, None, Some, option_map, refl, sym, ap, inl, inr, arith}
use Rattle.std.specs.Prelude.{find, is_some, IfSome}
use Rattle.std.proofs.lemmas.Bool.{cases_Bool}
use Rattle.std.proofs.lemmas.Bool.Decides.{eqb_tells}
use Rattle.lx_node.specs.Kinds.{is_text_block}
use Rattle.lx_node.specs.declared.kind.Kind.{Kind}
use Rattle.lx_node.specs.declared.kind.Kind.TheVariants.{Root}
use Rattle.lx_trees.specs.Siblings.{is_among}
use Rattle.lx_trees.specs.Spots.{Spot}
use Rattle.lx_forest.specs.Forest.{Forest, Label}
use Rattle.lx_forest.specs.Lookups.{has, spot, kind_of, ancestors, is_within, is_attached, IsForest}
use Rattle.lx_forest.proofs.Edits.{is_some-spot}
use Rattle.lx_forest.proofs.Within.{is_within-ancestors}
use Rattle.lx_forest.proofs.Up.{attached_above}
use Rattle.lx_links.specs.Stands.{Sound}
use Rattle.lx_links.proofs.Up.{in_order_at}
use Rattle.lx_links.proofs.Ordered.{there_within}
use Rattle.lx_blocks.specs.Blocks.{is_at, passes, block_of}

pub own : (b : ℕ) → eqb b b ≡ true
own b = grind (arith, eqb_tells b b)

pub first_among : (b : ℕ) (rest : List ℕ) → is_among b (b ∷ rest) ≡ true
first_among b rest = rw (own b) refl

pub more_among : (x k : ℕ) (rest : List ℕ) → is_among k rest ≡ true → is_among k (x ∷ rest) ≡ true
more_among x k rest e = grind (arith, e)

pub found_among : (test : ℕ → Bool) (ks : List ℕ) (b : ℕ) → find test ks ≡ Some b → is_among b ks ≡ true
found_among test [] b e = cc
found_among test (k ∷ ks) b e = elim (cases_Bool (test k)) [
  | inl here ↦ let same : k ≡ b = let h : Some k ≡ Some b = rw here at e in cc in rw same (first_among b ks)
  | inr later ↦ more_among k b ks (found_among test ks b (rw later at e))
]

-- the block of a node has it in its tree
pub block_within : (f : Forest) (k b : ℕ) → IsForest f → has k f ≡ true → block_of f k ≡ Some b → is_within f b k ≡ true
block_within f k b h there e = is_within-ancestors f b k h there ∙ found_among (is_at is_text_block f) (k ∷ ancestors f k) b e

-- and is attached where it is
block_attached : (f : Forest) (k b : ℕ) → Sound f → is_attached f k ≡ true → block_of f k ≡ Some b → is_attached f b ≡ true
block_attached f k b s attached e =
    let there = there_within f 0 k attached in
    let h = in_order_at f k s there in
    attached_above f b k h attached (block_within f k b h there e)

pub blocks_attached : (o : Option ℕ) (f : Forest) (k : ℕ) → Sound f → is_attached f k ≡ true → o ≡ block_of f k → IfSome o (λ b. is_attached f b ≡ true)
blocks_attached None f k s attached e = tt
blocks_attached (Some b) f k s attached e = block_attached f k b s attached (sym e)

-- a node that passes is its own block
pub own_block : (f : Forest) (k : ℕ) → is_at is_text_block f k ≡ true → block_of f k ≡ Some k
own_block f k so = rw so refl

-- ---- of which kind a node is

-- a node of some kind is there
pub kind_there : (test : Kind → Bool) (f : Forest) (k : ℕ) → is_at test f k ≡ true → has k f ≡ true
kind_there test f k so = by_spot (spot f k) refl where
  by_spot : (s : Option (Spot Label)) → spot f k ≡ s → has k f ≡ true
  by_spot None is = let no : false ≡ true =
      sym (ap (λ (x : Option (Spot Label)). passes test (option_map (λ (l : Label). l.kind) (option_map (λ (y : Spot Label). y.label) x))) is) ∙ so in
      absurd (cc)
  by_spot (Some s) is = sym (is_some-spot f k) ∙ ap is_some is

pub block_there : (f : Forest) (k : ℕ) → is_at is_text_block f k ≡ true → has k f ≡ true
block_there f k so = kind_there is_text_block f k so

-- a block isn't the root
pub block_below : (f : Forest) (k : ℕ) → is_at is_text_block f k ≡ true → kind_of f k ≢ Some Root
unfolding is_text_block
block_below f k so is = let no : false ≡ true = sym (ap (passes is_text_block) is) ∙ so in absurd (cc)

-- what is found passes the test
pub found_passes : (test : ℕ → Bool) (ks : List ℕ) (b : ℕ) → find test ks ≡ Some b → test b ≡ true
found_passes test [] b found = absurd (cc)
found_passes test (k ∷ ks) b found = elim (cases_Bool (test k)) [
  | inl here ↦ let same : k ≡ b = let h : Some k ≡ Some b = rw here at found in cc in rw same at here
  | inr later ↦ found_passes test ks b (rw later at found)
]

pub block_is : (f : Forest) (k b : ℕ) → block_of f k ≡ Some b → is_at is_text_block f b ≡ true
block_is f k b found = found_passes (is_at is_text_block f) (k ∷ ancestors f k) b found
