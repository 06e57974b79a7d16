-- What nodes that are read make, below a parent or below nothing: the trees that are described; or a limit refuses them.
use Rattle.std.proofs.Common.{◌≡◌, ◌∙◌, ◌+◌, ◌<◌, ℕ, true, false, cond, eqb, ltb, List, Option, None, Some, Result, Ok, Err, refl, ap, sym, subst, arith, inl, inr, Bool, ◌||◌, ◌∷◌}
use Rattle.std.specs.Option.{option_or}
use Rattle.std.proofs.lemmas.Bool.{cases_lt, cases_Bool}
use Rattle.std.proofs.lemmas.Bool.Decides.{eqb_tells, nat_tests}
use Rattle.std.proofs.lemmas.Option.{slice_get_past}
use Rattle.serde_json.specs.Data.{Data}
use Rattle.lx_trees.specs.Trees.{Trees, nil, tree, joined}
use Rattle.lx_trees.specs.NamedTrees.{total}
use Rattle.lx_trees.proofs.NamedTrees.{alone-absent, put_below-absent}
use Rattle.lx_node.specs.Kinds.{is_element, may_hold}
use Rattle.lx_node.specs.Strings.{characters_of}
use Rattle.lx_node.specs.declared.kind.Kind.{Kind}
use Rattle.lx_node.specs.declared.cause.Cause.{Cause}
use Rattle.lx_node.specs.declared.cause.Cause.TheVariants.{BadState}
use Rattle.lx_forest.specs.Forest.{Forest, Label}
use Rattle.lx_forest.specs.Lookups.{key_of, has, kind_of, parent_of, children_of, size_of, is_within, count, alone, spot}
use Rattle.lx_forest.specs.Edits.{with_new, put_in, last_below, among_roots}
use Rattle.lx_forest.proofs.Building.{put_in-with_new, last_below-within, last_below-twice}
use Rattle.lx_forest.proofs.Edits.{is_some-spot, has-root, spot-among_roots}
use Rattle.lx_forest.proofs.Lookups.{kind_of-with_new, parent_of-with_new}
use Rattle.lx_forest.proofs.Within.{is_within-with_new, alone-among_roots_inside, alone-among_roots_outside, is_within-self}
use Rattle.lx_forest.proofs.Walks.{no_parent}
use Rattle.lx_draft.specs.Working.{Working}
use Rattle.lx_draft.specs.Faults.{answer, after, over_counts, over_limits, put_fault}
use Rattle.lx_draft.specs.Steps.{made, new_step, node_placed, put_step}
use Rattle.lx_draft.specs.Covering.{IsReady, AreCovered}
use Rattle.lx_draft.proofs.Covered.{covered-self, covered-then}
use Rattle.lx_draft.proofs.CoveredSteps.{covered-new, covered-put}
use Rattle.lx_json.specs.Reading.{Piece, and_then, told_under, child_place, piece_of, with_tree, with_rest, trees_of}
use Rattle.std.specs.Prelude.{option_and_then}
use Rattle.serde_json.specs.Find.{as_array}
use Rattle.lx_fields.specs.Exporting.{node_data}
use Rattle.lx_fields.proofs.Exported.{children-there}
use Rattle.lx_json.specs.Exporting.{trees_data}
use Rattle.lx_json.specs.GivenBack.{IsGivenBack, AreGivenBack}
use Rattle.lx_json.specs.Growing.{grown, children_told}
use Rattle.lx_json.specs.Back.{pieces_of}
use Rattle.lx_json.proofs.Looked.{tree_of-node}
use Rattle.lx_json.proofs.BackTrees.{AreHeld, leaf_below, trees-back}
use Rattle.lx_json.proofs.NodesMade.{node_made-node, given-list, given-leaf}
use Rattle.lx_json.specs.Importing.{label_for, keyed}
use Rattle.lx_json.specs.Nodes.{put_below, node_new, node_made, items_made, children_given, put_below as put_where, Made, index_place, with_first, nodes_made}
use Rattle.lx_json.proofs.Grown.{keyed-low, grown-none}
use Rattle.lx_clip_laws.specs.Copies.{is_limit}
use Rattle.lx_trees.specs.Siblings.{is_among}
use Rattle.lx_trees.specs.Spots.{parent_at}
use Rattle.lx_trees.proofs.Spots.{spot_below-absent}
use Rattle.lx_trees.specs.Edits as rooted
use Rattle.lx_forest.specs.Lookups as lookups

-- ---- made, or refused by a limit

abbrev pub Makes : {A : Type 0} → (A → Type 0) → Result A Cause → Type 0
Makes P (Ok a) = P a
Makes P (Err cause) = is_limit cause ≡ true

pub makes_after : {A B : Type 0} (P : A → Type 0) (Q : B → Type 0) (r : Result A Cause) (next : A → Result B Cause) → Makes P r
    → ((a : A) → P a → Makes Q (next a)) → Makes Q (after r next)
makes_after P Q (Ok a) next m so = so a m
makes_after P Q (Err cause) next m so = m

pub makes_as : {A : Type 0} (P Q : A → Type 0) (r : Result A Cause) → Makes P r → ((a : A) → P a → Q a) → Makes Q r
makes_as P Q (Ok a) m so = so a m
makes_as P Q (Err cause) m so = m

pub makes_under : {A : Type 0} (P : A → Type 0) (place : List ℕ) (r : Result A Cause) → Makes P r → Makes P (told_under place r)
makes_under P place (Ok a) m = m
makes_under P place (Err (BadState rest)) m = absurd (cc)
makes_under P place (Err _) m = m

counts_limit : (w : Working) (cause : Cause) → over_counts w ≡ Some cause → is_limit cause ≡ true
counts_limit w cause e = grind (arith, e)

makes_answer : {A : Type 0} (P : A → Type 0) (o : Option Cause) (a : A) → ((cause : Cause) → o ≡ Some cause → is_limit cause ≡ true) → (o ≡ None → P a)
    → Makes P (answer o a)
makes_answer P None a limits so = so refl
makes_answer P (Some cause) a limits so = limits cause refl

-- ---- a new node

-- a draft that is ready, with a node of this kind
pub record HasParent (p : ℕ) (kind : Kind) (w : Working) : Type 0 where
  pub ready : IsReady w
  pub kind_is : kind_of w.forest p ≡ Some kind

-- trees came after the children of a parent
pub record Grows (p : ℕ) (trees : Trees Piece) (w v : Working) : Type 0 where
  pub forest : v.forest ≡ last_below p (keyed w.next_key trees) w.forest
  pub next : v.next_key ≡ w.next_key + total trees
  pub covered : AreCovered w v

pub has-kind : (f : Forest) (p : ℕ) (kind : Kind) → kind_of f p ≡ Some kind → has p f ≡ true
has-kind f p kind is = grind (arith, is, is_some-spot f p)

pub key_low : (q : ℕ) (w : Working) → IsReady w → has q w.forest ≡ true → q < w.next_key
key_low q w ready there = elim (cases_lt q w.next_key) [
  | inl low ↦ low
  | inr high ↦ absurd (let none = ready.free q high in cc)
]

pub next_free : (w : Working) → IsReady w → has w.next_key w.forest ≡ false
next_free w ready = ready.free w.next_key (omega arith)

-- a new node that stands below nothing
pub record IsNew (piece : Piece) (w u : Working) : Type 0 where
  pub forest : u.forest ≡ with_new (label_for w.next_key piece) w.forest
  pub next : u.next_key ≡ w.next_key + 1
  pub covered : AreCovered w u

pub new_made : (piece : Piece) (w : Working) → IsReady w → Makes (IsNew piece w) (new_step piece.kind piece.fields w)
unfolding new_step
new_made piece w ready =
    makes_answer (IsNew piece w) (over_limits (characters_of piece.fields) w) (made piece.kind piece.fields w) (λ cause e. grind (arith, e)) (λ none. record {
      forest = refl;
      next = refl;
      covered = covered-new piece.kind piece.fields w (made piece.kind piece.fields w) ready (ap (λ o. answer o (made piece.kind piece.fields w)) none);
    })

pub own_key : (n : ℕ) → eqb n n ≡ true
own_key n = grind (arith, eqb_tells n n)

pub kind_new : (piece : Piece) (w u : Working) → IsReady w → IsNew piece w u → kind_of u.forest w.next_key ≡ Some piece.kind
kind_new piece w u ready new =
    let l : Label = label_for w.next_key piece in
    ap (λ f. kind_of f w.next_key) new.forest ∙ kind_of-with_new l w.forest w.next_key ready.in_order (next_free w ready)
    ∙ ap (λ b. cond b (Some l.kind) (kind_of w.forest w.next_key)) (own_key w.next_key)

above_zero : (n : ℕ) → 0 < n → eqb n 0 ≡ false
above_zero n low = grind (arith, eqb_tells n 0)

not_below : (n : ℕ) → ltb n n ≡ false
not_below n = grind (arith, nat_tests)

-- nothing refuses to put it after the children of a parent
no_fault : (p : ℕ) (above : Kind) (piece : Piece) (w u : Working) → HasParent p above w → may_hold above piece.kind ≡ true → IsNew piece w u
    → put_fault w.next_key p (size_of u.forest p) u.forest ≡ None
no_fault p above piece w u parent held new =
    let l : Label = label_for w.next_key piece in
    let ready = parent.ready in
    let free = next_free w ready in
    let inner = kind_new piece w u ready new in
    let outer = new.covered.kinds.each p above parent.kind_is in
    let key_there : has w.next_key u.forest ≡ true = has-kind u.forest w.next_key piece.kind inner in
    let there : has p u.forest ≡ true = has-kind u.forest p above outer in
    let low : p < w.next_key = key_low p w ready (has-kind w.forest p above parent.kind_is) in
    let top : parent_of u.forest w.next_key ≡ None =
    ap (λ f. parent_of f w.next_key) new.forest ∙ parent_of-with_new l w.forest w.next_key ready.in_order free ∙ no_parent w.forest w.next_key free in
    let first : 0 < w.next_key = key_low 0 w ready (has-root w.forest ready.in_order) in
    let out : is_within u.forest w.next_key p ≡ false = outside p piece w u ready low new in
    let zero : eqb w.next_key 0 ≡ false = above_zero w.next_key first in
    rw (key_there, there, zero, top, out, outer, inner, held, not_below (size_of u.forest p)) refl
  where
    outside : (p : ℕ) (piece : Piece) (w u : Working) → IsReady w → p < w.next_key → IsNew piece w u → is_within u.forest w.next_key p ≡ false
    outside p piece w u ready low new =
        let l : Label = label_for w.next_key piece in
        ap (λ f. is_within f w.next_key p) new.forest ∙ is_within-with_new l w.forest w.next_key p (next_free w ready)
        ∙ grind (arith, low, next_free w ready, eqb_tells p w.next_key, alone-absent key_of w.next_key w.forest)

-- it was put after the children of a parent
record IsPut (p : ℕ) (piece : Piece) (w v : Working) : Type 0 where
  grows : Grows p (tree piece nil nil) w v
  kind_is : kind_of v.forest w.next_key ≡ Some piece.kind

put_made : (p : ℕ) (above : Kind) (piece : Piece) (w u : Working) → HasParent p above w → may_hold above piece.kind ≡ true → IsNew piece w u
    → Makes (IsPut p piece w) (put_step w.next_key p (size_of u.forest p) u)
unfolding put_step
put_made p above piece w u parent held new =
    let l : Label = label_for w.next_key piece in
    let v : Working = node_placed w.next_key p (size_of u.forest p) u in
    let none = no_fault p above piece w u parent held new in
    let faults : option_or (put_fault w.next_key p (size_of u.forest p) u.forest) (over_counts u) ≡ over_counts u =
    ap (λ o. option_or o (over_counts u)) none in
    subst (λ o. Makes (IsPut p piece w) (answer o v)) (sym faults)
    (makes_answer (IsPut p piece w) (over_counts u) v (λ cause e. counts_limit u cause e) (λ few.
    let came = covered-put w.next_key p (size_of u.forest p) u v new.covered.ready (ap (λ o. answer o v) (faults ∙ few)) in
    record {
      grows = record {
        forest =
            ap (λ before. put_in p before w.next_key u.forest) (slice_get_past (children_of u.forest p) (size_of u.forest p) (omega arith))
            ∙ ap (put_in p None w.next_key) new.forest
            ∙ put_in-with_new p l w.forest (next_free w parent.ready);
        next = omega (arith, new.next);
        covered = covered-then w u v new.covered came;
      };
      kind_is = came.kinds.each w.next_key piece.kind (kind_new piece w u parent.ready new);
    }))

node_new_made : (p : ℕ) (above : Kind) (piece : Piece) (w : Working) → HasParent p above w → may_hold above piece.kind ≡ true
    → Makes (IsPut p piece w) (node_new piece (Some p) w)
node_new_made p above piece w parent held =
    makes_after (IsNew piece w) (IsPut p piece w) (new_step piece.kind piece.fields w) (λ u. put_below (Some p) w.next_key u) (new_made piece w parent.ready)
    (λ u new. put_made p above piece w u parent held new)

-- ---- one after another

nothing_below : (p : ℕ) (f : Forest) → last_below p nil f ≡ f
unfolding grown
nothing_below p f = ap (λ g. g.links) (grown-none p (record { links = f; next = 0 }))

grows_none : (p : ℕ) (w : Working) → IsReady w → Grows p nil w w
grows_none p w ready = record { forest = sym (nothing_below p w.forest); next = omega arith; covered = covered-self w ready }

one_more : (n m : ℕ) → n + (1 + m + 0) ≡ n + 1 + m
one_more n m = omega arith

-- a node, and then what is below it
grows_below : (p : ℕ) (piece : Piece) (below : Trees Piece) (w u v : Working) → IsReady w → p < w.next_key → Grows p (tree piece nil nil) w u
    → Grows w.next_key below u v → Grows p (tree piece below nil) w v
grows_below p piece below w u v ready low a b =
    let l : Label = label_for w.next_key piece in
    let next : u.next_key ≡ w.next_key + 1 = omega (arith, a.next) in
    record {
      forest =
          (rw (next, a.forest) at b.forest)
          ∙ last_below-within p l (keyed (w.next_key + 1) below) w.forest (next_free w ready) (λ same. absurd (omega (arith, low, same)));
      next = omega (arith, a.next, b.next);
      covered = covered-then w u v a.covered b.covered;
    }

-- a tree, and then others after it
grows_then : (p : ℕ) (piece : Piece) (below rest : Trees Piece) (w u v : Working) → p < w.next_key → Grows p (tree piece below nil) w u → Grows p rest u v
    → Grows p (tree piece below rest) w v
grows_then p piece below rest w u v low a b =
    let next : u.next_key ≡ w.next_key + 1 + total below = a.next ∙ one_more w.next_key (total below) in
    record {
      forest =
          (rw (next, a.forest) at b.forest)
          ∙ last_below-twice p (keyed w.next_key (tree piece below nil)) (keyed (w.next_key + 1 + total below) rest) w.forest
          (ap (λ n. ltb 0 n) (keyed-low w.next_key p (tree piece below nil) low));
      next = omega (arith, a.next, b.next);
      covered = covered-then w u v a.covered b.covered;
    }

parent_after : (p : ℕ) (kind : Kind) (w u : Working) → HasParent p kind w → AreCovered w u → HasParent p kind u
parent_after p kind w u parent a = record { ready = a.ready; kind_is = a.kinds.each p kind parent.kind_is }

parent_low : (p : ℕ) (kind : Kind) (w : Working) → HasParent p kind w → p < w.next_key
parent_low p kind w parent = key_low p w parent.ready (has-kind w.forest p kind parent.kind_is)

-- ---- what is written

-- the node of a label, which the label's object describes
abbrev pub piece_in : Label → Piece
piece_in l = record { kind = l.kind; fields = l.fields }

-- what gives the first of trees is of its piece
piece_told : (place : List ℕ) (r : Result Piece Cause) (told : Piece → Result (Trees Piece) Cause) (x : Piece) (t : Trees Piece)
    → with_rest (told_under place (and_then r (λ p. with_tree p (told p)))) (Ok nil) ≡ Ok (tree x t nil) → r ≡ Ok x
piece_told place (Err cause) told x t e = absurd (cc)
piece_told place (Ok p) told x t e = by_told (told p) e where
  by_told : (r : Result (Trees Piece) Cause) → with_rest (told_under place (with_tree p r)) (Ok nil) ≡ Ok (tree x t nil)
      → ◌≡◌ {A = Result Piece Cause} (Ok p) (Ok x)
  by_told (Ok below) e = cc
  by_told (Err cause) e = absurd (cc)

-- each of the trees may stand below this kind, and is given back by what is written for it
abbrev pub AreGood : Kind → Forest → Type 0
AreGood parent nil = Unit {0}
AreGood parent (tree l below rest) =
    (may_hold parent l.kind ≡ true) × IsGivenBack l (trees_data below) × AreGood l.kind below × AreGood parent rest

pub held_good : (parent : Kind) (c : Forest) → AreHeld parent c → AreGivenBack c → AreGood parent c
held_good parent nil held given = tt
held_good parent (tree l below rest) held given =
    (held.0, given.0, held_good l.kind below held.1 given.1, held_good parent rest held.2 given.2)

given_back : (parent : Kind) (c : Forest) → AreGood parent c → AreGivenBack c
given_back parent nil good = tt
given_back parent (tree l below rest) good = (good.1, given_back l.kind below good.2, given_back parent rest good.3)

held : (parent : Kind) (c : Forest) → AreGood parent c → AreHeld parent c
held parent nil good = tt
held parent (tree l below rest) good = (good.0, held l.kind below good.2, held parent rest good.3)

-- what is written for a node
abbrev pub data_of : Label → Forest → Data
data_of l below = node_data l.kind l.fields (trees_data below)

piece_written : (kind : Kind) (l : Label) (below : Forest) → AreGood kind (tree l below nil) → piece_of (Some kind) (data_of l below) ≡ Ok (piece_in l)
unfolding trees_of trees_data
piece_written kind l below good =
    let one : Forest = tree l below nil in
    let d : Data = data_of l below in
    piece_told (child_place 0) (piece_of (Some kind) d) (λ p. children_told p.kind d) (piece_in l) (pieces_of below)
    (sym (ap (λ r. with_rest (told_under (child_place 0) r) (Ok nil)) (tree_of-node d kind))
    ∙ trees-back kind 0 one (given_back kind one good) (held kind one good))

-- what makes trees below a node, of what is written for them
abbrev pub MakesBelow : Forest → Kind → ℕ → Type 0
MakesBelow below kind n = (u : Working) → HasParent n kind u → Makes (Grows n (pieces_of below) u) (items_made (trees_data below) 0 kind n u)

below_made : (kind : Kind) (l : Label) (below : Forest) (n : ℕ) (u : Working) → AreGood kind (tree l below nil) → HasParent n l.kind u
    → MakesBelow below l.kind n → Makes (Grows n (pieces_of below) u) (children_given l.kind n (data_of l below) u)
unfolding trees_data
below_made kind l below n u good parent make = elim (cases_Bool (is_element l.kind)) [
  | inl element ↦
      let of = good.1.of_kind in
      rw (given-list l.kind n (data_of l below) (trees_data below) u refl element
      (ap (option_and_then as_array) (children-there l.kind l.fields (trees_data below) element of))) (make u parent)
  | inr leaf ↦
      let none : below ≡ nil = leaf_below l.kind below (held l.kind below good.2) leaf in
      rw (given-leaf l.kind n (data_of l below) u refl leaf) (subst (λ f. Grows n (pieces_of f) u u) (sym none) (grows_none n u parent.ready))
]

-- a node that is made, and then what is below it
pub node_makes : (P Q : Working → Type 0) (parent : Option ℕ) (kind : Kind) (l : Label) (below : Forest) (w : Working) → AreGood kind (tree l below nil)
    → MakesBelow below l.kind w.next_key → Makes P (node_new (piece_in l) parent w)
    → ((u : Working) → P u → HasParent w.next_key l.kind u) → ((u v : Working) → P u → Grows w.next_key (pieces_of below) u v → Q v)
    → Makes Q (node_made (data_of l below) kind parent w)
node_makes P Q parent kind l below w good make new holds all =
    let d : Data = data_of l below in
    rw (node_made-node d kind parent w, piece_written kind l below good)
    (makes_after P Q (node_new (piece_in l) parent w) (children_given l.kind w.next_key d) new (λ u a.
    makes_as (Grows w.next_key (pieces_of below) u) Q (children_given l.kind w.next_key d u) (below_made kind l below w.next_key u good (holds u a) make)
    (λ v b. all u v a b)))

pub trees_make : (c : Forest) (i : ℕ) (kind : Kind) (n : ℕ) (u : Working) → AreGood kind c → HasParent n kind u
    → Makes (Grows n (pieces_of c) u) (items_made (trees_data c) i kind n u)
unfolding items_made trees_data
trees_make nil i kind n u good parent = grows_none n u parent.ready
trees_make (tree l below rest) i kind n u good parent =
    let d : Data = data_of l below in
    let one : Trees Piece = pieces_of (tree l below nil) in
    let all : Trees Piece = pieces_of (tree l below rest) in
    let low : n < u.next_key = parent_low n kind u parent in
    makes_after (Grows n one u) (Grows n all u) (told_under (child_place i) (node_made d kind (Some n) u)) (items_made (trees_data rest) (i + 1) kind n)
    (makes_under (Grows n one u) (child_place i) (node_made d kind (Some n) u)
    (node_makes (IsPut n (piece_in l) u) (Grows n one u) (Some n) kind l below u (good.0, good.1, good.2, tt)
    (λ x holds. trees_make below 0 l.kind u.next_key x good.2 holds) (node_new_made n kind (piece_in l) u parent good.0)
    (λ x a. record { ready = a.grows.covered.ready; kind_is = a.kind_is })
    (λ x v a b. grows_below n (piece_in l) (pieces_of below) u x v parent.ready low a.grows b))) (λ v a.
    makes_as (Grows n (pieces_of rest) v) (Grows n all u) (items_made (trees_data rest) (i + 1) kind n v)
    (trees_make rest (i + 1) kind n v good.3 (parent_after n kind u v parent a.covered))
    (λ x b. grows_then n (piece_in l) (pieces_of below) (pieces_of rest) u v x low a b))

-- ---- a tree among the first ones, below nothing

-- trees below a node that was just put among the first ones
below_among : (l : Label) (s f : Forest) → count l.key f ≡ 0 → last_below l.key s (among_roots l.key (tree l nil nil) f) ≡ among_roots l.key (tree l s nil) f
below_among l s nil free = grind (arith, eqb_tells l.key l.key)
below_among l s (tree m below rest) free =
    grind (
      arith,
      free,
      eqb_tells l.key l.key,
      eqb_tells m.key l.key,
      put_below-absent key_of l.key None s below,
      put_below-absent key_of l.key None s rest,
      below_among l s rest,
    )

new_among : (l : Label) (f : Forest) → with_new l f ≡ among_roots l.key (tree l nil nil) f
unfolding with_new rooted.with_new
new_among l f = refl

-- a tree of a piece came among the first ones
record Comes (trees : Trees Piece) (w v : Working) : Type 0 where
  forest : v.forest ≡ among_roots w.next_key (keyed w.next_key trees) w.forest
  next : v.next_key ≡ w.next_key + total trees
  covered : AreCovered w v

comes_below : (piece : Piece) (below : Trees Piece) (w u v : Working) → IsReady w → IsNew piece w u → Grows w.next_key below u v
    → Comes (tree piece below nil) w v
comes_below piece below w u v ready a b =
    let l : Label = label_for w.next_key piece in
    let free : count w.next_key w.forest ≡ 0 = grind (arith, nat_tests, next_free w ready) in
    record {
      forest =
          (rw (a.next, a.forest, new_among l w.forest) at b.forest)
          ∙ below_among l (keyed (w.next_key + 1) below) w.forest free;
      next = omega (arith, a.next, b.next);
      covered = covered-then w u v a.covered b.covered;
    }

node_comes : (kind : Kind) (l : Label) (below : Forest) (w : Working) → AreGood kind (tree l below nil) → IsReady w
    → Makes (Comes (pieces_of (tree l below nil)) w) (node_made (data_of l below) kind None w)
node_comes kind l below w good ready =
    let piece : Piece = piece_in l in
    node_makes (IsNew piece w) (Comes (pieces_of (tree l below nil)) w) None kind l below w good
    (λ x holds. trees_make below 0 l.kind w.next_key x good.2 holds)
    (makes_after (IsNew piece w) (IsNew piece w) (new_step l.kind l.fields w) (λ u. put_where None w.next_key u) (new_made piece w ready) (λ u new. new))
    (λ u a. record { ready = a.covered.ready; kind_is = kind_new piece w u ready a }) (λ u v a b. comes_below piece (pieces_of below) w u v ready a b)

-- ---- one after another

-- a node that is there, below nothing
pub record IsTop (k : ℕ) (f : Forest) : Type 0 where
  pub there : has k f ≡ true
  pub top : parent_of f k ≡ None

-- These trees were made, with the new nodes of these keys on top and below nothing. What there was before is as it was.
pub record AreMade (trees : Trees Piece) (w : Working) (made : Made) : Type 0 where
  pub are : lookups.trees_of made.draft.forest made.keys ≡ keyed w.next_key trees
  pub next : made.draft.next_key ≡ w.next_key + total trees
  pub stays : (q : ℕ) → q < w.next_key → alone q made.draft.forest ≡ alone q w.forest
  pub parents : (q : ℕ) → q < w.next_key → parent_of made.draft.forest q ≡ parent_of w.forest q
  pub tops : (k : ℕ) → is_among k made.keys ≡ true → IsTop k made.draft.forest
  pub covered : AreCovered w made.draft

comes-own : (piece : Piece) (below : Trees Piece) (w v : Working) → IsReady w → Comes (tree piece below nil) w v
    → alone w.next_key v.forest ≡ keyed w.next_key (tree piece below nil)
comes-own piece below w v ready a =
    let n : ℕ = w.next_key in
    let free : count n w.forest ≡ 0 = grind (arith, nat_tests, next_free w ready) in
    ap (alone n) a.forest ∙ alone-among_roots_inside n n (keyed n (tree piece below nil)) w.forest free
    ∙ ap (λ b. cond b (tree (label_for n piece) (keyed (n + 1) below) nil) (joined (alone n (keyed (n + 1) below)) nil)) (own_key n)

comes-stays : (trees : Trees Piece) (w v : Working) (q : ℕ) → Comes trees w v → q < w.next_key → alone q v.forest ≡ alone q w.forest
comes-stays trees w v q a low =
    ap (alone q) a.forest ∙ alone-among_roots_outside q w.next_key (keyed w.next_key trees) w.forest (keyed-low w.next_key q trees low)

comes-parents : (trees : Trees Piece) (w v : Working) (q : ℕ) → IsReady w → Comes trees w v → q < w.next_key → parent_of v.forest q ≡ parent_of w.forest q
comes-parents trees w v q ready a low =
    let new : Forest = keyed w.next_key trees in
    let none : count q new ≡ 0 = keyed-low w.next_key q trees low in
    ap (λ f. parent_of f q) a.forest
    ∙ ap parent_at (spot-among_roots w.next_key new w.forest q (omega (arith, none, ready.in_order.once q)))
    ∙ ap (λ s. parent_at (option_or s (spot w.forest q))) (spot_below-absent key_of None new q none)

comes-top : (piece : Piece) (below : Trees Piece) (w v : Working) → IsReady w → Comes (tree piece below nil) w v → parent_of v.forest w.next_key ≡ None
comes-top piece below w v ready a =
    let n : ℕ = w.next_key in
    let new : Forest = keyed n (tree piece below nil) in
    let free : count n w.forest ≡ 0 = grind (arith, nat_tests, next_free w ready) in
    let under : count n (keyed (n + 1) below) ≡ 0 = keyed-low (n + 1) n below (omega arith) in
    let once : count n new + count n w.forest < 2 = grind (arith, free, under, eqb_tells n n) in
    ap (λ f. parent_of f n) a.forest ∙ ap parent_at (spot-among_roots n new w.forest n once) ∙ rw (own_key n) refl

first_there : (n : ℕ) (piece : Piece) (below : Forest) → has n (tree (label_for n piece) below nil) ≡ true
first_there n piece below = grind (arith, nat_tests, eqb_tells n n)

made_then : (piece : Piece) (below rest : Trees Piece) (w v : Working) (made : Made) → IsReady w → Comes (tree piece below nil) w v → AreMade rest v made
    → AreMade (tree piece below rest) w (record { draft = made.draft; keys = w.next_key ∷ made.keys })
made_then piece below rest w v made ready a b =
    let n : ℕ = w.next_key in
    let next : v.next_key ≡ n + 1 + total below = omega (arith, a.next) in
    record {
      are =
          ap (λ t. joined t (lookups.trees_of made.draft.forest made.keys)) (b.stays n (omega (arith, next)) ∙ comes-own piece below w v ready a)
          ∙ ap (joined (keyed n (tree piece below nil))) (b.are ∙ ap (λ m. keyed m rest) next);
      next = omega (arith, next, b.next);
      stays = λ q low. b.stays q (omega (arith, low, next)) ∙ comes-stays (tree piece below nil) w v q a low;
      parents = λ q low. b.parents q (omega (arith, low, next)) ∙ comes-parents (tree piece below nil) w v q ready a low;
      tops = λ k among. top k (eqb n k) refl among;
      covered = covered-then w v made.draft a.covered b.covered;
    }
  where
    first : IsTop w.next_key made.draft.forest
    first =
        let low : w.next_key < v.next_key = omega (arith, a.next) in
        record {
          there = sym (is_within-self made.draft.forest w.next_key) ∙ ap (has w.next_key) (b.stays w.next_key low ∙ comes-own piece below w v ready a)
              ∙ first_there w.next_key piece (keyed (w.next_key + 1) below);
          top = b.parents w.next_key low ∙ comes-top piece below w v ready a;
        }

    top : (k : ℕ) (t : Bool) → eqb w.next_key k ≡ t → is_among k (w.next_key ∷ made.keys) ≡ true → IsTop k made.draft.forest
    top k true is among = let same : w.next_key ≡ k = grind (arith, is, eqb_tells w.next_key k) in subst (λ q. IsTop q made.draft.forest) same first
    top k false is among = b.tops k (ap (λ t. t || is_among k made.keys) (sym is) ∙ among)

pub nodes_make : (c : Forest) (i : ℕ) (kind : Kind) (w : Working) → AreGood kind c → IsReady w
    → Makes (AreMade (pieces_of c) w) (nodes_made (trees_data c) i kind w)
unfolding nodes_made trees_data
nodes_make nil i kind w good ready =
    record { are = refl; next = omega arith; stays = λ q low. refl; parents = λ q low. refl; tops = λ k among. absurd (cc); covered = covered-self w ready }
nodes_make (tree l below rest) i kind w good ready =
    let one : Trees Piece = pieces_of (tree l below nil) in
    let all : Trees Piece = pieces_of (tree l below rest) in
    let r : Result Working Cause = node_made (data_of l below) kind None w in
    makes_after (Comes one w) (AreMade all w) (told_under (index_place i) r) (λ v. after (nodes_made (trees_data rest) (i + 1) kind v) (with_first w.next_key))
    (makes_under (Comes one w) (index_place i) r (node_comes kind l below w (good.0, good.1, good.2, tt) ready)) (λ v a.
    makes_after (AreMade (pieces_of rest) v) (AreMade all w) (nodes_made (trees_data rest) (i + 1) kind v) (with_first w.next_key)
    (nodes_make rest (i + 1) kind v good.3 a.covered.ready)
    (λ made b. made_then (piece_in l) (pieces_of below) (pieces_of rest) w v made ready a b))
