-- A document that was written within the limits is read within them, with any next key from which on there are keys enough.
use Rattle.std.proofs.Common.{◌≡◌, ◌∙◌, ℕ, ◌+◌, ◌<◌, ◌≤◌, max, true, cond, eqb, List, [], ◌∷◌, ◌++◌, length, Option, None, Some, unwrap_or, refl, sym, ap, arith}
use Rattle.std.specs.Option.{option_or}
use Rattle.std.proofs.lemmas.Bool.Decides.{eqb_tells, nat_tests}
use Rattle.lx_trees.specs.Trees.{nil, tree}
use Rattle.lx_trees.specs.NamedTrees.{total, IsDistinct}
use Rattle.lx_trees.specs.NamedTrees as named
use Rattle.lx_trees.specs.Siblings.{is_among}
use Rattle.lx_trees.specs.Walks.{ancestors_below}
use Rattle.lx_node.specs.Strings.{capped}
use Rattle.lx_node.specs.Limits.{most_depth, most_nodes, most_characters, most_key}
use Rattle.lx_node.specs.declared.cause.Cause.{Cause}
use Rattle.lx_node.specs.declared.cause.Limit.TheVariants.{Depth, Nodes, Characters, KeyCount}
use Rattle.lx_node.specs.declared.kind.Kind.TheVariants.{Root}
use Rattle.lx_trees.proofs.NamedTrees.{is_among-preorder, joined-nil}
use Rattle.lx_trees.proofs.Walks.{is_some-ancestors_below, ancestors_below-absent}
use Rattle.lx_forest.specs.Forest.{Forest, Label}
use Rattle.lx_forest.specs.Lookups.{key_of, roots, alone, ancestors, preorder, trees_of, IsForest}
use Rattle.lx_forest.specs.Edits.{drop_detached}
use Rattle.lx_forest.specs.Weights.{weight}
use Rattle.lx_forest.proofs.Lookups.{trees_of-roots}
use Rattle.lx_forest.proofs.Walks.{is_among-preorder_of}
use Rattle.lx_forest.proofs.Weights.{weight-preorder}
use Rattle.lx_links.specs.Characters.{characters_in}
use Rattle.lx_draft.specs.Faults.{over}
use Rattle.lx_draft.specs.Freezing.{greatest, depth_at, tree_depth, characters_at, tree_characters, limits_fault}
use Rattle.lx_json.specs.Importing.{rooted, next_behind}
use Rattle.lx_json.specs.Back.{pieces_of}
use Rattle.lx_json.proofs.BackKeys.{deepest, deepest-keyed, weight-keyed, total-keyed, total-pieces, rooted-in_order}

-- ---- the root alone

pub alone_whole : (f : Forest) → IsForest f → roots f ≡ 0 ∷ [] → alone 0 f ≡ f
alone_whole f h one = sym (joined-nil (alone 0 f)) ∙ sym (ap (trees_of f) one) ∙ trees_of-roots f h

-- ---- the greatest depth

greatest-append : (measure : ℕ → ℕ) (xs ys : List ℕ) → greatest measure (xs ++ ys) ≡ max (greatest measure xs) (greatest measure ys)
greatest-append measure [] ys = omega arith
greatest-append measure (x ∷ xs) ys = omega (arith, greatest-append measure xs ys)

greatest-agree : (m n : ℕ → ℕ) (xs : List ℕ) → ((k : ℕ) → is_among k xs ≡ true → m k ≡ n k) → greatest m xs ≡ greatest n xs
greatest-agree m n [] same = refl
greatest-agree m n (x ∷ xs) same =
    let own : m x ≡ n x = same x (grind (arith, eqb_tells x x)) in
    omega (arith, own, greatest-agree m n xs (λ k e. same k (grind (arith, e))))

-- how many keys are above one, in trees that are below these
abbrev above_in : List ℕ → Forest → ℕ → ℕ
above_in above t k = length (unwrap_or (ancestors_below key_of above t k) [])

above_first : (above : List ℕ) (l : Label) (below rest : Forest) → above_in above (tree l below rest) l.key ≡ length above
above_first above l below rest =
    let own : eqb l.key l.key ≡ true = grind (arith, eqb_tells l.key l.key) in
    ap (λ b. length
    (unwrap_or (cond b (Some above) (option_or (ancestors_below key_of (l.key ∷ above) below l.key) (ancestors_below key_of above rest l.key))) [])) own

found_below : (above : List ℕ) (l : Label) (below rest : Forest) (k : ℕ) → IsDistinct key_of (tree l below rest) → named.has key_of k below ≡ true
    → ancestors_below key_of above (tree l below rest) k ≡ ancestors_below key_of (l.key ∷ above) below k
found_below above l below rest k once there = grind (arith, there, once k, eqb_tells l.key k, is_some-ancestors_below key_of (l.key ∷ above) below k)

found_rest : (above : List ℕ) (l : Label) (below rest : Forest) (k : ℕ) → IsDistinct key_of (tree l below rest) → named.has key_of k rest ≡ true
    → ancestors_below key_of above (tree l below rest) k ≡ ancestors_below key_of above rest k
found_rest above l below rest k once there = grind (arith, there, once k, eqb_tells l.key k, ancestors_below-absent key_of (l.key ∷ above) below k)

deepest_above : (d : ℕ) (above : List ℕ) (t : Forest) → length above ≡ d → IsDistinct key_of t
    → greatest (above_in above t) (named.preorder key_of t) ≡ deepest d t
deepest_above d above nil so once = refl
deepest_above d above (tree l below rest) so once =
    let all : ℕ → ℕ = above_in above (tree l below rest) in
    let own : all l.key ≡ d = above_first above l below rest ∙ so in
    let inner : greatest all (named.preorder key_of below) ≡ deepest (d + 1) below =
    greatest-agree all (above_in (l.key ∷ above) below) (named.preorder key_of below)
    (λ k e. ap (λ o. length (unwrap_or o [])) (found_below above l below rest k once (sym (is_among-preorder key_of k below) ∙ e)))
    ∙ deepest_above (d + 1) (l.key ∷ above) below (omega (arith, so)) (λ q. omega (arith, once q)) in
    let outer : greatest all (named.preorder key_of rest) ≡ deepest d rest =
    greatest-agree all (above_in above rest) (named.preorder key_of rest)
    (λ k e. ap (λ o. length (unwrap_or o [])) (found_rest above l below rest k once (sym (is_among-preorder key_of k rest) ∙ e)))
    ∙ deepest_above d above rest so (λ q. omega (arith, once q)) in
    omega (arith, own, inner, outer, greatest-append all (named.preorder key_of below) (named.preorder key_of rest))

pub tree_depth-deepest : (f : Forest) → IsForest f → alone 0 f ≡ f → tree_depth f ≡ deepest 0 f
tree_depth-deepest f h whole =
    greatest-agree (depth_at f) (above_in [] f) (preorder f)
    (λ k e. ap (λ b. unwrap_or (cond b (Some (length (ancestors f k))) None) 0) (sym (is_among-preorder_of f k) ∙ e))
    ∙ ap (λ t. greatest (above_in [] f) (named.preorder key_of t)) whole
    ∙ deepest_above 0 [] f refl h.once

-- ---- the scalar values

pub tree_characters-weight : (f : Forest) → IsForest f → alone 0 f ≡ f → tree_characters f ≡ weight characters_in f
unfolding drop_detached
tree_characters-weight f h whole = weight-preorder characters_in (characters_at f) f h (λ q s e. rw e refl) ∙ ap (weight characters_in) whole

-- ---- the limits

first_none : (a b c d e : Option Cause) → option_or a (option_or b (option_or c d)) ≡ None → e ≡ None → option_or a (option_or b (option_or c e)) ≡ None
first_none None None None d e h last = last
first_none None None (Some cause) d e h last = absurd (cc)
first_none None (Some cause) c d e h last = absurd (cc)
first_none (Some cause) b c d e h last = absurd (cc)

few_keys : (n : ℕ) → n ≤ most_key → over KeyCount most_key n ≡ None
unfolding capped
few_keys n small = grind (arith, nat_tests, small)

abbrev fault_of : ℕ → ℕ → ℕ → ℕ → Option Cause
fault_of deep nodes characters next =
    option_or (over Depth most_depth deep)
    (option_or (over Nodes most_nodes nodes) (option_or (over Characters most_characters characters) (over KeyCount most_key next)))

still_none : (deep nodes characters a b c next old : ℕ) → a ≡ deep → b ≡ nodes → c ≡ characters → next ≤ most_key → fault_of deep nodes characters old ≡ None
    → fault_of a b c next ≡ None
still_none deep nodes characters a b c next old e g h few none =
    ap (λ n. fault_of n b c next) e ∙ ap (λ n. fault_of deep n c next) g ∙ ap (λ n. fault_of deep nodes n next) h
    ∙ first_none (over Depth most_depth deep) (over Nodes most_nodes nodes) (over Characters most_characters characters) (over KeyCount most_key old)
    (over KeyCount most_key next) none (few_keys next few)

pub limits-back : (next : ℕ) (l : Label) (below : Forest) → IsForest (tree l below nil) → roots (tree l below nil) ≡ 0 ∷ [] → l.kind ≡ Root → 0 < next
    → next + total (tree l below nil) ≤ most_key + 1 → limits_fault (tree l below nil) 1 ≡ None
    → limits_fault (rooted next (pieces_of (tree l below nil))) (next_behind next (pieces_of (tree l below nil))) ≡ None
limits-back next l below h one root first room none =
    let f : Forest = tree l below nil in
    let g : Forest = rooted next (pieces_of f) in
    let i : IsForest g = rooted-in_order next (record { kind = l.kind; fields = l.fields }) (pieces_of below) nil first root in
    let old = alone_whole f h one in
    let new = alone_whole g i refl in
    let deep : tree_depth g ≡ tree_depth f =
    tree_depth-deepest g i new ∙ ap (λ n. max 0 (max n 0)) (deepest-keyed 1 next below) ∙ sym (tree_depth-deepest f h old) in
    let nodes : total g ≡ total f = omega (arith, total-keyed next (pieces_of below), total-pieces below) in
    let weighs : weight characters_in g ≡ weight characters_in f = omega (arith, weight-keyed next below) in
    let characters : tree_characters g ≡ tree_characters f = tree_characters-weight g i new ∙ weighs ∙ sym (tree_characters-weight f h old) in
    still_none (tree_depth f) (total f) (tree_characters f) (tree_depth g) (total g) (tree_characters g) (next + total (pieces_of below)) 1 deep nodes
    characters (omega (arith, total-pieces below, room)) none
