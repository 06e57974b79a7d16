-- Trees that are put after the children of a label, one after another.
use Rattle.std.proofs.Common.{◌≡◌, ◌≢◌, ℕ, true, false, eqb, None, refl, ap, ◌∙◌, arith}
use Rattle.std.proofs.lemmas.Bool.Decides.{eqb_tells}
use Rattle.lx_trees.specs.Trees.{Trees, nil, tree, joined}
use Rattle.lx_trees.specs.NamedTrees.{count, has, alone, without, inserted}
use Rattle.lx_trees.proofs.NamedTrees.{put_below-absent, without-absent}
use Rattle.lx_trees.specs.Edits.{among_roots, with_new, put_in, last_below}
use Rattle.lx_trees.proofs.Within.{alone-among_roots_inside, without-among_roots}

module _ {A : Type 0} (name : A → ℕ) where
  own_name : (l : A) → eqb (name l) (name l) ≡ true
  own_name l = grind (arith, eqb_tells (name l) (name l))

  inserted_last : (new below : Trees A) → inserted name None new below ≡ joined below new
  inserted_last new nil = refl
  inserted_last new (tree m below rest) = ap (tree m below) (inserted_last new rest)

  -- a new label that is put at once
  pub put_in-with_new : (p : ℕ) (l : A) (f : Trees A) → has name (name l) f ≡ false
      → put_in name p None (name l) (with_new name l f) ≡ last_below name p (tree l nil nil) f
  unfolding put_in with_new
  put_in-with_new p l f free =
      let absent : count name (name l) f ≡ 0 = grind (arith, free) in
      let its_tree : alone name (name l) (among_roots name (name l) (tree l nil nil) f) ≡ tree l nil nil =
      alone-among_roots_inside name (name l) (name l) (tree l nil nil) f absent ∙ rw (own_name l) refl in
      let others : without name (name l) (among_roots name (name l) (tree l nil nil) f) ≡ f =
      without-among_roots name (name l) (tree l nil nil) f (rw (own_name l) refl) ∙ without-absent name (name l) f absent in
      rw (its_tree, others)

  -- trees below the last one
  below_last : (k : ℕ) (s below t : Trees A) → count name k below ≡ 0 → last_below name k s (joined below t) ≡ joined below (last_below name k s t)
  below_last k s nil t absent = refl
  below_last k s (tree m below rest) t absent =
      grind (arith, absent, eqb_tells (name m) k, put_below-absent name k None s below, below_last k s rest t)

  below_made : (l : A) (s : Trees A) → last_below name (name l) s (tree l nil nil) ≡ tree l s nil
  below_made l s = rw (own_name l) refl

  -- a label that was just put there, and then trees below it
  pub last_below-within : (p : ℕ) (l : A) (s f : Trees A) → has name (name l) f ≡ false → p ≢ name l
      → last_below name (name l) s (last_below name p (tree l nil nil) f) ≡ last_below name p (tree l s nil) f
  last_below-within p l s nil free other = refl
  last_below-within p l s (tree m below rest) free other =
      grind (arith, free, other, eqb_tells (name m) p, eqb_tells (name m) (name l), last_below-within p l s below, last_below-within p l s rest, inserted_last (tree l nil nil) below, inserted_last (tree l s nil) below, below_last (name l) s below (tree l nil nil), below_made l s)

  inserted_twice : (new more below : Trees A) → inserted name None more (inserted name None new below) ≡ inserted name None (joined new more) below
  inserted_twice new more nil = inserted_last more new
  inserted_twice new more (tree m below rest) = ap (tree m below) (inserted_twice new more rest)

  -- more after them
  pub last_below-twice : (p : ℕ) (new more f : Trees A) → has name p new ≡ false
      → last_below name p more (last_below name p new f) ≡ last_below name p (joined new more) f
  last_below-twice p new more nil free = refl
  last_below-twice p new more (tree m below rest) free =
      grind (arith, free, eqb_tells (name m) p, inserted_twice new more below, last_below-twice p new more below free, last_below-twice p new more rest free)
