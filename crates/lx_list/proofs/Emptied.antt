-- Children that go to another node leave a selection in the tree, and their own node empty.
use Rattle.std.proofs.Common.{◌≡◌, ◌≢◌, ◌∙◌, ℕ, ◌+◌, Bool, true, false, cond, eqb, leb, ◌&&◌, min, List, [], ◌∷◌, length, Option, None, Some, Result, Ok, refl, sym, ap, ap₂, subst, arith}
use Rattle.std.specs.Prelude.{slice_get, option_map}
use Rattle.std.specs.Option.{option_or}
use Rattle.std.proofs.lemmas.Bool.Decides.{eqb_tells}
use Rattle.lx_trees.specs.Siblings.{is_among, is_named, NoRepeats, names_without, names_with}
use Rattle.lx_trees.proofs.Siblings.{names_without-absent_list}
use Rattle.lx_node.specs.Kinds.{is_element}
use Rattle.lx_node.specs.declared.kind.Kind.{Kind}
use Rattle.lx_node.specs.declared.cause.Cause.{Cause}
use Rattle.lx_node.specs.declared.cause.Cause.TheVariants.{WrongKind, BadPlace}
use Rattle.lx_node.specs.declared.cause.Point.{Point}
use Rattle.lx_node.specs.declared.cause.PointKind.{PointKind}
use Rattle.lx_node.specs.declared.cause.PointKind.TheVariants as point
use Rattle.lx_select.specs.declared.selection.Selection.{Selection}
use Rattle.lx_select.specs.declared.selection.Selection.TheVariants.{Range}
use Rattle.lx_select.specs.Selection.{ends_of, carried, carried_point}
use Rattle.lx_select.specs.Rules.{offset_sum, carry_moves}
use Rattle.lx_forest.specs.Forest.{Forest}
use Rattle.lx_forest.specs.Lookups.{kind_of, parent_of, children_of, size_of, is_within, is_attached, IsForest}
use Rattle.lx_forest.specs.Edits.{take_out, put_in, CanPut}
use Rattle.lx_forest.proofs.Lookups.{is_among-children_of, NoRepeats-children_of, children_of-take_out, children_of-put_in}
use Rattle.lx_forest.proofs.Order.{IsForest-take_out}
use Rattle.lx_forest.proofs.Within.{is_within-self}
use Rattle.lx_links.specs.Faults.{unknown}
use Rattle.lx_draft.specs.Working.{Working}
use Rattle.lx_draft.specs.Selecting.{unlike, is_counted_in}
use Rattle.lx_draft.specs.Faults.{answer, after, over_counts, put_fault}
use Rattle.lx_draft.specs.Steps.{node_placed, take_step, put_step}
use Rattle.lx_draft.proofs.Covered.{answered}
use Rattle.lx_draft.proofs.Put.{both_none}
use Rattle.lx_edit.specs.InTurn.{in_turn}
use Rattle.lx_edit.specs.Conditions.{inside, misfit_among, children_fault}
use Rattle.lx_edit.specs.Edits.{moved_to_end, brought, children_moved, children_step}
use Rattle.lx_blocks.specs.Blocks.{passes}
use Rattle.lx_blocks.specs.Ranges.{lies}
use Rattle.lx_blocks.proofs.Steps.{attached_there}
use Rattle.lx_caret.specs.Lying.{EachPoint}
use Rattle.lx_caret.proofs.Lies.{both, spot_point, size_grown}
use Rattle.lx_caret.proofs.Fit.{after_tells, Fit, Stays, stays_self, stays_then, puts}
use Rattle.lx_caret.proofs.Moves.{stays_moved}
use Rattle.lx_caret.proofs.Parents.{characters_no_element}
use Rattle.lx_list.proofs.Moved.{take_leaves}
use Rattle.lx_list.proofs.Written.{known}

-- ---- put

-- the forest that a put leaves
record PutAt (w v : Working) (k p : ℕ) : Type 0 where
  pub before : Option ℕ
  pub can : CanPut p k w.forest
  pub forest : v.forest ≡ put_in p before k w.forest

put_tells : (k p index : ℕ) (w v : Working) → put_step k p index w ≡ Ok v → PutAt w v k p
unfolding put_step
put_tells k p index w v e =
    let told = answered (option_or (put_fault k p index w.forest) (over_counts w)) (node_placed k p index w) v e in
    let is = puts w.forest k p index (both_none (put_fault k p index w.forest) (over_counts w) told.0).0 in
    record { before = slice_get (children_of w.forest p) index; can = is.may; forest = ap (λ x. x.forest) (sym told.1) }

-- ---- how many children there are

no_child : (f : Forest) (k p q : ℕ) → IsForest f → parent_of f k ≡ Some p → p ≢ q → is_among k (children_of f q) ≡ false
no_child f k p q h up other = is_among-children_of f k q h ∙ rw up (grind (arith, other, eqb_tells p q))

without_first : (k : ℕ) (rest : List ℕ) → NoRepeats (k ∷ rest) → names_without k (k ∷ rest) ≡ rest
without_first k rest once = grind (arith, eqb_tells k k, names_without-absent_list k rest once.0)

-- the first child of a node moved to the end of another's
record FirstMoved (w v : Working) (from to : ℕ) (rest : List ℕ) : Type 0 where
  pub left : children_of v.forest from ≡ rest
  pub more : size_of v.forest to ≡ size_of w.forest to + 1

child_of : (f : Forest) (k from : ℕ) (rest : List ℕ) → IsForest f → children_of f from ≡ k ∷ rest → parent_of f k ≡ Some from
child_of f k from rest h are =
    let among : is_among k (children_of f from) ≡ true = rw are (grind (arith, eqb_tells k k)) in
    by_parent (parent_of f k) refl (sym (is_among-children_of f k from h) ∙ among) where
      by_parent : (o : Option ℕ) → parent_of f k ≡ o → is_named (parent_of f k) from ≡ true → parent_of f k ≡ Some from
      by_parent None is e = absurd (grind (arith, is, e))
      by_parent (Some p) is e = grind (arith, is, e, eqb_tells p from, eqb_tells from p)

first_moved : (from to k : ℕ) (rest : List ℕ) (w v : Working) → Fit w → from ≢ to → children_of w.forest from ≡ k ∷ rest → moved_to_end to k w ≡ Ok v
    → FirstMoved w v from to rest
unfolding moved_to_end
first_moved from to k rest w v fit other are e =
    let f : Forest = w.forest in
    let h = fit.ready.in_order in
    let first = after_tells (take_step k w) (λ u. put_step k to (size_of u.forest to) u) v e in
    let u : Working = first.0 in
    let g : u.forest ≡ take_out k f = take_leaves k w u first.1.0 in
    let ordered : IsForest u.forest = subst IsForest (sym g) (IsForest-take_out k f h) in
    let at = put_tells k to (size_of u.forest to) u v first.1.1 in
    let up : parent_of f k ≡ Some from = child_of f k from rest h are in
    let taken : children_of u.forest from ≡ rest =
    ap (λ t. children_of t from) g ∙ children_of-take_out k f from h ∙ ap (names_without k) are
    ∙ without_first k rest (subst NoRepeats are (NoRepeats-children_of f from h)) in
    let still : children_of u.forest to ≡ children_of f to =
    ap (λ t. children_of t to) g ∙ children_of-take_out k f to h ∙ names_without-absent_list k (children_of f to) (no_child f k from to h up other) in
    let apart : eqb from to ≡ false = grind (arith, other, eqb_tells from to) in
    record {
      left = ap (λ t. children_of t from) at.forest ∙ children_of-put_in to at.before k u.forest from ordered at.can
          ∙ ap (λ b. cond b (names_with at.before (k ∷ []) (children_of u.forest from)) (children_of u.forest from)) apart ∙ taken;
      more = ap (λ t. size_of t to) at.forest ∙ size_grown u.forest k to at.before ordered at.can ∙ ap (λ xs. length xs + 1) still;
    }

pub record Emptied (w v : Working) (from to count : ℕ) : Type 0 where
  pub stays : Stays w v
  pub none : children_of v.forest from ≡ []
  pub more : size_of v.forest to ≡ size_of w.forest to + count

pub emptied : (from to : ℕ) (ks : List ℕ) (w v : Working) → Fit w → is_attached w.forest to ≡ true → from ≢ to → children_of w.forest from ≡ ks
    → in_turn (moved_to_end to) ks w ≡ Ok v → Emptied w v from to (length ks)
unfolding in_turn
emptied from to [] w v fit place other are e =
    let is : w ≡ v = cc in subst (λ u. Emptied w u from to 0) is (record { stays = stays_self w fit; none = are; more = omega arith })
emptied from to (k ∷ ks) w v fit place other are e =
    let first = after_tells (moved_to_end to k w) (in_turn (moved_to_end to) ks) v e in
    let u : Working = first.0 in
    let stays = stays_moved to k w u fit place first.1.0 in
    let one = first_moved from to k ks w u fit other are first.1.0 in
    let rest = emptied from to ks u v stays.fit (stays.attached to place) other one.left first.1.1 in
    record { stays = stays_then w u v stays rest.stays; none = rest.none; more = omega (arith, one.more, rest.more) }

-- ---- points that go along

-- where points on a node go with its children
record Goes (w v : Working) (from to : ℕ) : Type 0 where
  pub element : passes is_element (kind_of w.forest from) ≡ true
  pub there : is_attached v.forest to ≡ true
  pub counts : is_counted_in point.Element (kind_of v.forest to) ≡ true
  pub room : size_of v.forest to ≡ size_of w.forest to + size_of w.forest from

along_lies : (w v : Working) (from to o : ℕ) (kind : PointKind) → Goes w v from to → lies w.forest (spot_point from o kind) ≡ true
    → lies v.forest (spot_point to (offset_sum (size_of w.forest to) o) kind) ≡ true
unfolding offset_sum
along_lies w v from to o point.Text goes e =
    let counted : is_counted_in point.Text (kind_of w.forest from) ≡ true = (both _ _ (both _ _ e).1).0 in
    let bad : false ≡ true = sym (characters_no_element (kind_of w.forest from) counted) ∙ goes.element in absurd (cc)
along_lies w v from to o point.Element goes e =
    let within : leb o (size_of w.forest from) ≡ true = (both _ _ (both _ _ e).1).1 in
    let room : leb (min (size_of w.forest to + o) 4294967295) (size_of v.forest to) ≡ true = grind (arith, goes.room, within) in
    ap₂ ◌&&◌ goes.there (ap₂ ◌&&◌ goes.counts room)

carried_lies : (w v : Working) (from to : ℕ) (before now : Point) → Goes w v from to → lies w.forest before ≡ true → lies v.forest now ≡ true
    → lies v.forest (carried_point from (carry_moves from to (size_of w.forest to)) before now) ≡ true
unfolding carry_moves
carried_lies w v from to before now goes first second = by_test (eqb before.key from) refl where
  by_test : (b : Bool) → eqb before.key from ≡ b
      → lies v.forest (cond b (cond b (record before { key = to; offset = offset_sum (size_of w.forest to) before.offset }) before) now) ≡ true
  by_test false other = second
  by_test true own =
      let same : before.key ≡ from = grind (arith, own, eqb_tells before.key from) in
      along_lies w v from to before.offset before.kind goes (ap (λ n. lies w.forest (spot_point n before.offset before.kind)) (sym same) ∙ first)

each_carried : (w v : Working) (from to : ℕ) (s t : Selection) → Goes w v from to → EachPoint (λ x. lies w.forest x ≡ true) s
    → EachPoint (λ x. lies v.forest x ≡ true) t
    → EachPoint (λ x. lies v.forest x ≡ true) (carried from (carry_moves from to (size_of w.forest to)) (ends_of s) t)
each_carried w v from to (Range a b format) (Range c d other) goes first second =
    (carried_lies w v from to a c goes first.0 second.0, carried_lies w v from to b d goes first.1 second.1)
each_carried w v from to s t goes first second = second

-- ---- the children of a node given to another

pub record ChildrenGone (w v : Working) (from : ℕ) : Type 0 where
  pub stays : Stays w v
  pub none : children_of v.forest from ≡ []

with_points : (w v : Working) (s : Selection) → Stays w v → EachPoint (λ x. lies v.forest x ≡ true) s → Stays w (record v { selection = s })
with_points w v s stays lying = record {
  fit = record {
    ready = record { in_order = stays.fit.ready.in_order; free = stays.fit.ready.free };
    held = stays.fit.held;
    short = stays.fit.short;
    lying = lying;
  };
  attached = stays.attached;
  kept = record { each = λ q kind e. stays.kept.each q kind e };
}

is_like : (test : Kind → Bool) (o : Option Kind) (kind : Kind) → o ≡ Some kind → unlike test o ≡ None → test kind ≡ true
is_like test None kind is none = absurd (cc)
is_like test (Some found) kind is none = let same : found ≡ kind = cc in ap test (sym same) ∙ by_test (test found) none where
  by_test : (b : Bool) → cond b None (Some (WrongKind found)) ≡ None → b ≡ true
  by_test true e = refl
  by_test false e = absurd (cc)

not_inside : (f : Forest) (from to : ℕ) → inside f from to ≡ None → is_within f from to ≡ false
not_inside f from to none = by_test (is_within f from to) none where
  by_test : (b : Bool) → cond b (Some (BadPlace to)) None ≡ None → b ≡ false
  by_test false e = refl
  by_test true e = absurd (cc)

-- what isn't refused: two elements, of which the second isn't in the first
record MayGo (f : Forest) (from to : ℕ) : Type 0 where
  pub source : Kind
  pub source_is : kind_of f from ≡ Some source
  pub source_holds : is_element source ≡ true
  pub target : Kind
  pub target_is : kind_of f to ≡ Some target
  pub target_holds : is_element target ≡ true
  pub outside : is_within f from to ≡ false

may_go : (f : Forest) (from to : ℕ) → children_fault from to f ≡ None → MayGo f from to
may_go f from to none =
    let five : Option Cause = misfit_among f (kind_of f to) (children_of f from) in
    let four : Option Cause = option_or (inside f from to) five in
    let three : Option Cause = option_or (unlike is_element (kind_of f to)) four in
    let two : Option Cause = option_or (unlike is_element (kind_of f from)) three in
    let one = both_none (unknown f from) (option_or (unknown f to) two) none in
    let second = both_none (unknown f to) two one.1 in
    let third = both_none (unlike is_element (kind_of f from)) three second.1 in
    let fourth = both_none (unlike is_element (kind_of f to)) four third.1 in
    let source = known f from one.0 in
    let target = known f to second.0 in
    let source_is : kind_of f from ≡ Some source.0.kind = ap (option_map (λ l. l.kind)) source.1 in
    let target_is : kind_of f to ≡ Some target.0.kind = ap (option_map (λ l. l.kind)) target.1 in
    record {
      source = source.0.kind;
      source_is = source_is;
      source_holds = is_like is_element (kind_of f from) source.0.kind source_is third.0;
      target = target.0.kind;
      target_is = target_is;
      target_holds = is_like is_element (kind_of f to) target.0.kind target_is fourth.0;
      outside = not_inside f from to (both_none (inside f from to) five fourth.1).0;
    }

two_nodes : (f : Forest) (from to : ℕ) → is_attached f to ≡ true → is_within f from to ≡ false → from ≢ to
two_nodes f from to place out = λ same.
    let own : is_within f to to ≡ true = is_within-self f to ∙ attached_there f to place in
    let bad : false ≡ true = sym out ∙ ap (λ n. is_within f n to) same ∙ own in absurd (cc)

children_go : (from to : ℕ) (w v : Working) → Fit w → is_attached w.forest to ≡ true → MayGo w.forest from to → children_moved from to w ≡ Ok v
    → ChildrenGone w v from
children_go from to w v fit place may e =
    let ks : List ℕ = children_of w.forest from in
    let one = after_tells (in_turn (moved_to_end to) ks w) (λ u. Ok (brought from to (size_of w.forest to) (ends_of w.selection) u)) v e in
    let u : Working = one.0 in
    let left = emptied from to ks w u fit place (two_nodes w.forest from to place may.outside) refl one.1.0 in
    let goes : Goes w u from to = record {
      element = ap (passes is_element) may.source_is ∙ may.source_holds;
      there = left.stays.attached to place;
      counts = ap (is_counted_in point.Element) (left.stays.kept.each to may.target may.target_is) ∙ may.target_holds;
      room = left.more;
    } in
    let after_it : ◌≡◌ {A = Result Working Cause} (Ok (brought from to (size_of w.forest to) (ends_of w.selection) u)) (Ok v) = one.1.1 in
    let is : brought from to (size_of w.forest to) (ends_of w.selection) u ≡ v = cc in
    subst (λ x. ChildrenGone w x from) is (record {
      stays = with_points w u (carried from (carry_moves from to (size_of w.forest to)) (ends_of w.selection) u.selection) left.stays
          (each_carried w u from to w.selection u.selection goes fit.lying left.stays.fit.lying);
      none = left.none;
    })

pub children_gone : (from to : ℕ) (w v : Working) → Fit w → is_attached w.forest to ≡ true → children_step from to w ≡ Ok v → ChildrenGone w v from
unfolding children_step
children_gone from to w v fit place e = by_fault (children_fault from to w.forest) refl e where
  by_fault : (o : Option Cause) → children_fault from to w.forest ≡ o → after (answer o w) (children_moved from to) ≡ Ok v → ChildrenGone w v from
  by_fault None none e = children_go from to w v fit place (may_go w.forest from to none) e
  by_fault (Some cause) some e = absurd (cc)
