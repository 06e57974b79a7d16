-- How links grow: by a node and then by what is below it, and by one tree after another.
use Rattle.std.proofs.Common.{◌≡◌, ◌∙◌, ◌+◌, ◌≤◌, ◌<◌, ℕ, Bool, true, false, ltb, cond, List, drop, None, Some, Result, Ok, Err, refl, ap, sym, subst, arith}
use Rattle.std.proofs.lemmas.Bool.Decides.{eqb_tells}
use Rattle.std.specs.List.{slice_get}
use Rattle.serde_json.specs.declared.value.Value.{Value}
use Rattle.serde_json.specs.Data.{Data}
use Rattle.serde_json.specs.View.{view, items_view}
use Rattle.lx_trees.specs.Trees.{Trees, nil, tree}
use Rattle.lx_trees.specs.NamedTrees.{total, inserted, put_below}
use Rattle.lx_node.specs.declared.kind.Kind.{Kind}
use Rattle.lx_node.specs.declared.cause.Cause.{Cause}
use Rattle.lx_node.specs.declared.cause.Fault.{Fault}
use Rattle.lx_forest.specs.Forest.{Forest, Label}
use Rattle.lx_forest.specs.Lookups.{key_of, count, has, IsForest}
use Rattle.lx_forest.specs.Edits.{with_new, put_in, last_below}
use Rattle.lx_forest.proofs.Building.{put_in-with_new, last_below-within, last_below-twice}
use Rattle.lx_forest.proofs.Edits.{count-with_new, count-put_in, total-with_new, total-put_in}
use Rattle.lx_forest.proofs.Order.{IsForest-with_new, IsForest-put_in}
use Rattle.lx_links.specs.Faults.{place_fault}
use Rattle.lx_links.proofs.Placed.{placing}
use Rattle.lx_draft.specs.Faults.{TellsStep}
use Rattle.lx_json.specs.declared.growing.Growth.{Growth}
use Rattle.lx_json.specs.Reading.{Piece, and_then, told_under, child_place, with_tree, with_rest, tree_of, trees_of, piece_of}
use Rattle.lx_json.specs.Importing.{label_for, keyed}
use Rattle.lx_json.specs.Growing.{IsGrowing, IsUnder, grown, grown_by, children_told}
use Rattle.lx_json.proofs.Looked.{with_children, tree_of-node, trees_left}
use Rattle.lx_json.proofs.Told.{tells_same, tells_first, tells_up, tells_where}

pub growth_is : (f g : Forest) (m n : ℕ) → f ≡ g → m ≡ n → ◌≡◌ {A = Growth} (record { links = f; next = m }) (record { links = g; next = n })
growth_is f g m n e h = ap (λ f. record { links = f; next = m }) e ∙ ap (λ n. record { links = g; next = n }) h

-- ---- keys

pub keyed-low : (n q : ℕ) (trees : Trees Piece) → q < n → count q (keyed n trees) ≡ 0
keyed-low n q nil low = refl
keyed-low n q (tree piece below rest) low =
    grind (arith, low, eqb_tells n q, keyed-low (n + 1) q below (omega (arith, low)), keyed-low (n + 1 + total below) q rest (omega (arith, low)))

-- ---- one node

pub grown-none : (p : ℕ) (g : Growth) → grown p nil g ≡ g
unfolding grown
grown-none p g = growth_is (last_below p nil g.links) g.links (g.next + 0) g.next (put_nothing p g.links) (omega arith)
  where
    inserted_nothing : (f : Forest) → inserted key_of None nil f ≡ f
    inserted_nothing nil = refl
    inserted_nothing (tree l below rest) = ap (tree l below) (inserted_nothing rest)

    at_one : (b : Bool) (l : Label) (p : ℕ) (below rest : Forest) → put_below key_of p None nil below ≡ below → put_below key_of p None nil rest ≡ rest
        → tree l (cond b (inserted key_of None nil below) (put_below key_of p None nil below)) (put_below key_of p None nil rest) ≡ tree l below rest
    at_one true l p below rest e h = ap (λ s. tree l s (put_below key_of p None nil rest)) (inserted_nothing below) ∙ ap (tree l below) h
    at_one false l p below rest e h = ap (λ s. tree l s (put_below key_of p None nil rest)) e ∙ ap (tree l below) h

    put_nothing : (p : ℕ) (f : Forest) → put_below key_of p None nil f ≡ f
    put_nothing p nil = refl
    put_nothing p (tree l below rest) = at_one _ l p below rest (put_nothing p below) (put_nothing p rest)

-- what is put below a node that was just put there
grown-below : (p : ℕ) (piece : Piece) (below : Trees Piece) (g : Growth) → IsGrowing g → p < g.next
    → grown g.next below (grown p (tree piece nil nil) g) ≡ grown p (tree piece below nil) g
unfolding grown
grown-below p piece below g i low =
    growth_is _ _ _ _
    (last_below-within p (label_for g.next piece) (keyed (g.next + 1) below) g.links (i.free g.next (omega arith))
    (λ same. absurd (omega (arith, low, same)))) (sums g.next (total below))
  where
    sums : (n m : ℕ) → n + 1 + m ≡ n + (1 + m + 0)
    sums n m = omega arith

-- trees after the one that was just put there
grown-behind : (p : ℕ) (piece : Piece) (below others : Trees Piece) (g : Growth) → p < g.next
    → grown p others (grown p (tree piece below nil) g) ≡ grown p (tree piece below others) g
unfolding grown
grown-behind p piece below others g low =
    growth_is _ _ _ _
    (ap (λ n. last_below p (keyed n others) (last_below p (keyed g.next (tree piece below nil)) g.links)) (sums g.next (total below))
    ∙ last_below-twice p (keyed g.next (tree piece below nil)) (keyed (g.next + 1 + total below) others) g.links
    (ap (λ n. ltb 0 n) (keyed-low g.next p (tree piece below nil) low)))
    (all g.next (total below) (total others))
  where
    sums : (n m : ℕ) → n + (1 + m + 0) ≡ n + 1 + m
    sums n m = omega arith

    all : (n m o : ℕ) → n + (1 + m + 0) + o ≡ n + (1 + m + o)
    all n m o = omega arith

-- ---- what holds while they grow

placed_links : (p : ℕ) (l : Label) (f : Forest) → IsForest f → has l.key f ≡ false → place_fault p None l.key (with_new l f) ≡ None
    → IsForest (last_below p (tree l nil nil) f) × (total (last_below p (tree l nil nil) f) ≡ 1 + total f)
    × ((q : ℕ) → count q (last_below p (tree l nil nil) f) ≡ count q (with_new l f))
placed_links p l f order free none =
    let can = (placing p None l.key (with_new l f) none).can in
    let made = IsForest-with_new l f order free in
    let same = put_in-with_new p l f free in (
      subst IsForest same (IsForest-put_in p None l.key (with_new l f) made can),
      ap total (sym same) ∙ total-put_in p None l.key (with_new l f) made can.parent can.outside ∙ total-with_new l f,
      (λ q. ap (count q) (sym same) ∙ count-put_in q p None l.key (with_new l f) made can.parent can.outside),
    )

pub grown_one : (p : ℕ) (piece : Piece) (g : Growth) (made f : Forest) → IsGrowing g → made ≡ with_new (label_for g.next piece) g.links
    → place_fault p None g.next made ≡ None → f ≡ put_in p None g.next made
    → (record { links = f; next = g.next + 1 } ≡ grown p (tree piece nil nil) g) × IsGrowing (record { links = f; next = g.next + 1 })
unfolding grown
grown_one p piece g made f i new none is =
    let l : Label = label_for g.next piece in
    let free : has l.key g.links ≡ false = i.free g.next (omega arith) in
    let same : f ≡ last_below p (tree l nil nil) g.links = is ∙ ap (put_in p None g.next) new ∙ put_in-with_new p l g.links free in
    let held = placed_links p l g.links i.order free (ap (place_fault p None g.next) (sym new) ∙ none) in (
      growth_is f _ (g.next + 1) _ same refl,
      record {
        order = subst IsForest (sym same) held.0;
        few = omega (arith, ap total same, held.1, i.few);
        free = λ q above. ap (has q) same ∙ ap (λ n. ltb 0 n) (held.2 q ∙ count-with_new q l g.links)
            ∙ grind (arith, above, i.free q (omega (arith, above)), eqb_tells g.next q);
      },
    )

-- ---- a node and its children

pub ok_is : {A : Type 0} (a b : A) → ◌≡◌ {A = Result A Cause} (Ok a) (Ok b) → a ≡ b
ok_is a b e = cc

next_up : (p : ℕ) (r : Result (Trees Piece) Cause) (g h : Growth) → grown_by p r g ≡ Ok h → g.next ≤ h.next
unfolding grown_by grown
next_up p (Ok trees) g h e = let same = ok_is (grown p trees g) h e in omega (arith, ap (λ (g : Growth). g.next) same)
next_up p (Err cause) g h e = absurd (cc)

-- a node's key is below the next one
pub key_below : {key : ℕ} {made : Growth} (p : ℕ) (piece : Piece) (g : Growth) → key ≡ g.next → made ≡ grown p (tree piece nil nil) g → key < made.next
unfolding grown
key_below p piece g same is = omega (arith, same, ap (λ (g : Growth). g.next) is)

pub grown_by-none : (p : ℕ) (r : Result (Trees Piece) Cause) (g : Growth) → r ≡ Ok nil → grown_by p r g ≡ Ok g
unfolding grown_by
grown_by-none p r g e = ap (λ r. grown_by p r g) e ∙ ap (λ h. Ok h) (grown-none p g)

grown_with : (p : ℕ) (piece : Piece) (r : Result (Trees Piece) Cause) (g : Growth) → IsGrowing g → p < g.next
    → grown_by p (with_tree piece r) g ≡ grown_by g.next r (grown p (tree piece nil nil) g)
unfolding grown_by
grown_with p piece (Ok below) g i low = ap (λ h. Ok h) (sym (grown-below p piece below g i low))
grown_with p piece (Err cause) g i low = refl

-- the node gets this key, and then its children are read
pub node_grown : {piece : Piece} {key : ℕ} {g made h : Growth} (p : ℕ) (parent : Kind) (d : Data) → IsGrowing g → p < g.next
    → piece_of (Some parent) d ≡ Ok piece → key ≡ g.next → made ≡ grown p (tree piece nil nil) g
    → grown_by key (children_told piece.kind d) made ≡ Ok h → grown_by p (tree_of d (Some parent)) g ≡ Ok h
node_grown {piece} {key} {g} {made} p parent d i low of same is e =
    ap (λ r. grown_by p r g) (tree_of-node d parent ∙ ap (λ r. and_then r (with_children d)) of)
    ∙ grown_with p piece (children_told piece.kind d) g i low
    ∙ ap (grown_by g.next (children_told piece.kind d)) (sym is)
    ∙ ap (λ k. grown_by k (children_told piece.kind d) made) (sym same)
    ∙ e

-- ---- one tree after another

-- a tree alone, or a cause
abbrev IsLone : Result (Trees Piece) Cause → Type 0
IsLone (Ok nil) = ⊥
IsLone (Ok (tree piece below nil)) = Unit {0}
IsLone (Ok (tree piece below (tree other more rest))) = ⊥
IsLone (Err cause) = Unit {0}

lone_with : (piece : Piece) (r : Result (Trees Piece) Cause) → IsLone (with_tree piece r)
lone_with piece (Ok below) = tt
lone_with piece (Err cause) = tt

lone_node : (d : Data) (parent : Kind) → IsLone (tree_of d (Some parent))
lone_node d parent = subst IsLone (sym (tree_of-node d parent)) (lone_by (piece_of (Some parent) d))
  where
    lone_by : (r : Result Piece Cause) → IsLone (and_then r (with_children d))
    lone_by (Ok piece) = lone_with piece (children_told piece.kind d)
    lone_by (Err cause) = tt

behind : (p : ℕ) (place : List ℕ) (r others : Result (Trees Piece) Cause) (g h : Growth) → IsLone r → p < g.next → grown_by p r g ≡ Ok h
    → grown_by p others h ≡ grown_by p (with_rest (told_under place r) others) g
unfolding grown_by
behind p place (Ok nil) others g h lone low e = absurd lone
behind p place (Ok (tree piece below (tree other more rest))) others g h lone low e = absurd lone
behind p place (Err cause) others g h lone low e = absurd (cc)
behind p place (Ok (tree piece below nil)) (Err cause) g h lone low e = refl
behind p place (Ok (tree piece below nil)) (Ok trees) g h lone low e =
    ap (λ h. Ok (grown p trees h)) (sym (ok_is (grown p (tree piece below nil) g) h e)) ∙ ap (λ h. Ok h) (grown-behind p piece below trees g low)

-- what refuses a growth is what refuses its trees
refused_by : (p : ℕ) (r : Result (Trees Piece) Cause) (g : Growth) (cause : Cause) → grown_by p r g ≡ Err cause → r ≡ Err cause
unfolding grown_by
refused_by p (Ok trees) g cause e = absurd (cc)
refused_by p (Err other) g cause e = cc

refuses : (p : ℕ) (r : Result (Trees Piece) Cause) (g : Growth) (cause : Cause) → r ≡ Err cause → grown_by p r g ≡ Err cause
unfolding grown_by
refuses p r g cause e = ap (λ r. grown_by p r g) e

-- ---- nodes one after another

-- those that are left, after those that were read, come to what all come to
pub record IsReadTo (p : ℕ) (left : Result (Trees Piece) Cause) (g : Growth) (all : Result (Trees Piece) Cause) (first : Growth) : Type 0 where
  pub same : grown_by p left g ≡ grown_by p all first
  pub growing : IsGrowing g
  pub below : p < g.next

-- the first of the items that are left is read
pub read_on : {p : ℕ} {v : Value} {all : Result (Trees Piece) Cause} {g h first : Growth} (vs : List Value) (i n : ℕ) (kind : Kind)
    → IsReadTo p (trees_of (items_view (drop i vs)) n kind) g all first
    → slice_get vs i ≡ Some v → grown_by p (tree_of (view v) (Some kind)) g ≡ Ok h → IsGrowing h
    → IsReadTo p (trees_of (items_view (drop (i + 1) vs)) (n + 1) kind) h all first
read_on {p} {v} {g = g} {h = h} vs i n kind read is e growing = record {
  same = behind p (child_place n) (tree_of (view v) (Some kind)) _ g h (lone_node (view v) kind) read.below e
      ∙ ap (λ r. grown_by p r g) (sym (trees_left vs i n v kind is)) ∙ read.same;
  growing = growing;
  below = omega (arith, read.below, next_up p _ g h e);
}

-- what refuses it, said from one place further up, refuses all
pub tells_all : {p : ℕ} {v : Value} {all : Result (Trees Piece) Cause} {g first : Growth} (vs : List Value) (i n : ℕ) (kind : Kind) (e up : Fault)
    → IsReadTo p (trees_of (items_view (drop i vs)) n kind) g all first
    → slice_get vs i ≡ Some v → IsUnder (child_place n) e up → TellsStep e (tree_of (view v) (Some kind)) → TellsStep up all
tells_all {p} {v} {all} {g} {first} vs i n kind e up read is above told =
    tells_where up _ all (λ cause refused. refused_by p all first cause (sym read.same ∙ refuses p _ g cause refused))
    (tells_same up _ _ (trees_left vs i n v kind is) (tells_first up _ _ (tells_up (child_place n) e up _ above told)))
