-- What an update has made of an editor, from what its steps left of the draft.
use Rattle.std.proofs.Common.{◌≡◌, ◌∙◌, ◌+◌, ◌<◌, ℕ, Bool, true, false, List, [], ◌∷◌, Option, None, Result, Ok, refl, sym, ap, subst, arith}
use Rattle.std.proofs.lemmas.Bool.Decides.{eqb_tells}
use Rattle.lx_trees.specs.Trees.{nil, tree}
use Rattle.lx_node.specs.Kinds.{is_text_block, is_list}
use Rattle.lx_node.specs.Limits.{most_counts}
use Rattle.lx_node.specs.declared.cause.Cause.{Cause}
use Rattle.lx_node.specs.Strings.{capped, characters_of, characters_of_element, characters_of_extra}
use Rattle.lx_node.specs.declared.kind.Kind.{Kind}
use Rattle.lx_node.specs.declared.kind.Kind.TheVariants.{Root}
use Rattle.std.proofs.lemmas.List.Elements.{All-nil}
use Rattle.lx_host.specs.declared.op.Op.{Op}
use Rattle.lx_host.specs.Hosts.{HostTree, shape_of, new_tree, Leads, FitInTurn}
use Rattle.lx_host.specs.Html.{html_of, first_tree}
use Rattle.lx_marks.specs.Marks.{Marked, unmarked, is_touched}
use Rattle.lx_select.specs.declared.selection.Selection.{Selection}
use Rattle.lx_select.specs.declared.selection.Selection.TheVariants.{Nothing}
use Rattle.lx_step.specs.declared.rule.TypeRow.{TypeRow}
use Rattle.lx_step.specs.declared.listener.Listener.{Listener}
use Rattle.lx_step.specs.declared.step.Step.{Step}
use Rattle.lx_forest.specs.Forest.{Forest, root_alone}
use Rattle.lx_forest.specs.Edits.{drop_detached}
use Rattle.lx_forest.specs.Lookups.{has, count, roots, alone, IsForest}
use Rattle.lx_forest.proofs.Edits.{has-root}
use Rattle.lx_forest.proofs.Order.{IsForest-drop_detached}
use Rattle.lx_draft.specs.Working.{Working, MayStart, started}
use Rattle.lx_draft.specs.Covering as drafts
use Rattle.lx_draft.specs.Covering.{Covers, IsReady}
use Rattle.lx_draft.specs.Faults.{after}
use Rattle.lx_draft.specs.Selecting.{selection_lost}
use Rattle.lx_draft.specs.Freezing.{swept, freeze_step, freeze_fault, limits_fault, kept_selection, Freezes}
use Rattle.lx_draft.proofs.Covered.{answered, covered-self, covered-then}
use Rattle.lx_render.specs.Render.{render}
use Rattle.lx_forest.specs.Covered.{AreCovered}
use Rattle.lx_reconcile.specs.Allowed.{Shows, AreAllowed}
use Rattle.lx_reconcile.specs.Allowing.{marking, IsAllowed}
use Rattle.lx_reconcile.specs.Told.{Told}
use Rattle.lx_reconcile.proofs.Covered.{covered}
use Rattle.lx_edit.specs.Texts.{simple_at}
use Rattle.lx_reconcile.proofs.StartEnd.{one_tree}
use Rattle.lx_reconcile.proofs.Frozen.{frozen_parts, one_left, swept_alone, kind_stays}
use Rattle.lx_update.specs.Lines.{at_first, left_draft, script_from, steps_run}
use Rattle.lx_update.specs.Refusals.{refused_or, at_none, TellsRefusal}
use Rattle.lx_update.proofs.Emptied.{emptied_done}
use Rattle.lx_update.specs.declared.refusal.Refusal.{Refusal}
use Rattle.lx_update.specs.declared.refusal.Refusal.TheVariants as refusal
use Rattle.lx_draft.specs.declared.state.State.{State}
use Rattle.lx_history.specs.History.{History, new_history, noted}
use Rattle.lx_rules.specs.declared.any_rule.AnyRule.{AnyRule}
use Rattle.lx_settle.specs.Joined.{IsJoined, is_empty_text, are_alike}
use Rattle.lx_settle.specs.Laws.{IsAlone, AreMarked}
use Rattle.lx_settle.specs.Rested.{IsRested}
use Rattle.lx_settle.specs.Settling.{settle_step}
use Rattle.lx_settle.proofs.Ends.{settling_ends}
use Rattle.lx_blocks.specs.Blocks.{is_at}
use Rattle.lx_list.specs.Laws.{IsRenumbered}
use Rattle.lx_list.specs.Numbered.{AreListsNumbered}
use Rattle.lx_list.specs.Numbering.{number_step}
use Rattle.lx_list.proofs.Covered.{covered-lists}
use Rattle.lx_list.proofs.Swept.{numbered_swept}
use Rattle.lx_settle.proofs.Rest.{there as attached_there}
use Rattle.lx_editor.specs.Editor.{Editor}
use Rattle.lx_editor.specs.Gathering.{begun, recording_all, started_of, with_nothing_pending}
use Rattle.lx_editor.specs.Standing.{IsState, HasKinds, IsEntry, EachEntry, IsValid}
use Rattle.lx_editor.specs.Updated.{at_commit, answers_of, numbered_by, rested_by, IsAtRest, Settled, left_by, Left, state_with, recorded, with_commit, IsCommitted, IsMadeOf, IsUpdatedBy, IsFlushed}
use Rattle.lx_editor.specs.declared.outcome.Outcome.{Outcome}
use Rattle.lx_editor.specs.declared.recording.Recording.{Recording}
use Rattle.lx_editor.specs.Registered.{marked_for, left_with, left_for}
use Rattle.serde_json.specs.Data.{Data}
use Rattle.lx_json.specs.Importing.{imported}
use Rattle.lx_editor.specs.Loaded.{left_by_load}
use Rattle.lx_editor.specs.Judged.{MayCommit, MayGiveWay, IsLeft, LeavesAtRest, IsSettledOf, HasGrown, IsFresh, IsLeftOfImport}
use Rattle.lx_editor.proofs.Kept.{kinds, new_kinds, entries_kept}
use Rattle.lx_editor.proofs.Limits.{first_none, second_none}
use Rattle.lx_editor.proofs.Renumbered.{marked_on, rested_on, joined_on}
use Rattle.lx_editor.proofs.Selected.{kept_again}
use Rattle.lx_editor.proofs.Loaded.{all_touched, only_root, new_or_root, shown_by}

-- ---- what the steps left

-- steps that ran leave what the draft does that they left
pub are_left : (rules : List AnyRule) (listeners : List Listener) (steps : List Step) (w draft : Working) → left_draft (steps_run listeners steps w) ≡ Ok draft
    → left_by rules listeners steps w ≡ rested_by rules draft
unfolding left_by
are_left rules listeners steps w draft ran = ap (λ r. refused_or r (rested_by rules)) ran

-- no steps leave what the draft does
no_steps : (rules : List AnyRule) (listeners : List Listener) (w : Working) → left_by rules listeners [] w ≡ rested_by rules w
unfolding left_by steps_run script_from
no_steps rules listeners w = ap (λ r. refused_or (left_draft (at_none r)) (rested_by rules)) (emptied_done most_counts listeners (at_first w) refl)

-- so an update without steps is a flush
pub is_flushed : (old : Editor) (how : Recording) (outcome : Outcome) (new : Editor) → IsUpdatedBy old [] how outcome new → IsFlushed old how outcome new
unfolding IsUpdatedBy IsFlushed
is_flushed old how outcome new updated =
    subst (λ r. IsMadeOf r (with_nothing_pending old) (recording_all old how) outcome new) (no_steps old.rules old.listeners (begun old)) updated

-- where they are refused nothing is left
pub steps_refused : (rules : List AnyRule) (listeners : List Listener) (steps : List Step) (w : Working) (e : Refusal)
    → TellsRefusal e (steps_run listeners steps w) → TellsRefusal e (left_by rules listeners steps w)
unfolding left_by
steps_refused rules listeners steps w (refusal.Cause cause step) told = ap (λ r. refused_or (left_draft r) (rested_by rules)) told
steps_refused rules listeners steps w refusal.Memory told = tt

-- so do the marks for a rule
pub marked_left : (rules : List AnyRule) (row : TypeRow) (w draft : Working) → marked_for row w ≡ Ok draft → left_for rules row w ≡ rested_by rules draft
unfolding left_for
marked_left rules row w draft marked = ap (left_with rules) marked

-- a draft is ready where it begins
pub ready_start : (u : Working) → IsFresh u → IsReady u
ready_start u fresh = record { in_order = fresh.state.in_order; free = fresh.state.start.free }

pub fresh_start : (f : Forest) (selection : Selection) (next_key : ℕ) → IsState f selection next_key → IsFresh (started f selection next_key)
fresh_start f selection next_key state = record { state = state; marks = refl; fresh = refl }

-- a draft of what is committed is such
pub fresh_started : (e : Editor) → IsValid e → IsFresh (started_of e)
fresh_started e valid = fresh_start e.tree e.selection e.next_key valid.state

-- so is whatever is made of a draft that is covered
pub still_covered : (start w end : Working) → drafts.AreCovered start w → (IsReady w → drafts.AreCovered w end) → drafts.AreCovered start end
still_covered start w end begun goes = covered-then start w end begun (goes begun.ready)

-- what is frozen is within the limits, and has what is selected
nothing_against : (w : Working) (f : Forest) (selection : Selection) (marks : Marked) (next_key : ℕ) → Freezes w f selection marks next_key
    → (selection_lost selection f ≡ None) × (limits_fault f next_key ≡ None)
unfolding freeze_step
nothing_against w f selection marks next_key frozen =
    let left : Working = record (swept w) { forest = f; selection = selection; marks = marks; next_key = next_key } in
    let told = answered (freeze_fault (swept w)) (swept w) left frozen in
    let first = first_none (selection_lost (swept w).selection (swept w).forest) (limits_fault (swept w).forest (swept w).next_key) told.0 in
    let second = second_none (selection_lost (swept w).selection (swept w).forest) (limits_fault (swept w).forest (swept w).next_key) told.0 in
    subst (λ (v : Working). (selection_lost v.selection v.forest ≡ None) × (limits_fault v.forest v.next_key ≡ None)) told.1 (first, second)

-- each node that is selected in what is frozen is there
kept_frozen : (w : Working) (f : Forest) (s : Selection) (marks : Marked) (next_key : ℕ) → Freezes w f s marks next_key → kept_selection f s ≡ s
unfolding freeze_step swept
kept_frozen w f s marks next_key frozen =
    let left : Working = record (swept w) { forest = f; selection = s; marks = marks; next_key = next_key } in
    subst (λ (v : Working). kept_selection v.forest v.selection ≡ v.selection) (answered (freeze_fault (swept w)) (swept w) left frozen).1
    (kept_again (drop_detached w.forest) w.selection)

-- what the draft leaves that came to rest, and whose items got their numbers
numbered_left : (rules : List AnyRule) (w v x : Working) (f : Forest) (selection : Selection) (marks : Marked) (next_key : ℕ)
    → settle_step (answers_of rules) w ≡ Ok v → number_step v ≡ Ok x
    → Freezes x f selection marks next_key
    → rested_by rules w ≡ Ok (record { left = record { tree = f; selection = selection; marks = marks; next_key = next_key; rules = rules }; marks = v.marks })
numbered_left rules w v x f selection marks next_key settled numbered frozen =
    ap (numbered_by rules) settled ∙ ap (λ r. at_commit rules v.marks (after r freeze_step)) numbered ∙ ap (at_commit rules v.marks) frozen

pub rest_left : (rules : List AnyRule) (w v x : Working) (f : Forest) (selection : Selection) (marks : Marked) (next_key : ℕ)
    → settle_step (answers_of rules) w ≡ Ok v → number_step v ≡ Ok x
    → Freezes x f selection marks next_key → LeavesAtRest w (record { tree = f; selection = selection; marks = marks; next_key = next_key; rules = rules })
rest_left rules w v x f selection marks next_key settled numbered frozen =
    (v.marks, numbered_left rules w v x f selection marks next_key settled numbered frozen)

settled_is : (r : Result Settled (Cause × Option ℕ)) (a b : Settled) → r ≡ Ok a → r ≡ Ok b → a ≡ b
settled_is r a b e g = ok_is (sym e ∙ g) where
  ok_is : ◌≡◌ {A = Result Settled (Cause × Option ℕ)} (Ok a) (Ok b) → a ≡ b
  ok_is h = cc

-- it is at rest
rest_settled : (rules : List AnyRule) (w v x : Working) (f : Forest) (selection : Selection) (marks : Marked) (next_key : ℕ)
    → settle_step (answers_of rules) w ≡ Ok v → number_step v ≡ Ok x
    → Freezes x f selection marks next_key → IsForest x.forest → IsRenumbered v.forest x.forest → IsRested (answers_of rules) v.forest v.marks
    → IsSettledOf w (record { tree = f; selection = selection; marks = marks; next_key = next_key; rules = rules })
rest_settled rules w v x f selection marks next_key settled numbered frozen order renumbered rested left is =
    let answers = answers_of rules in
    let own : Settled = record { left = record { tree = f; selection = selection; marks = marks; next_key = next_key; rules = rules }; marks = v.marks } in
    let parts = frozen_parts x f selection marks next_key frozen in
    let later : IsRested answers x.forest v.marks = rested_on answers v.forest x.forest v.marks renumbered rested in
    let at_rest : IsAtRest own = subst (λ g. IsRested answers g v.marks) parts.0 (settling_ends.rested_swept answers x.forest v.marks order later) in
    subst IsAtRest (settled_is (rested_by rules w) own left (numbered_left rules w v x f selection marks next_key settled numbered frozen) is) at_rest

-- its marks cover the trees before and after
left_covered : (u v : Working) (f : Forest) (selection : Selection) (marks : Marked) (next_key : ℕ) → u.marks ≡ unmarked → AreMarked u v
    → Freezes v f selection marks next_key → AreCovered u.forest f (marking marks)
left_covered u v f selection marks next_key none m frozen =
    let parts = frozen_parts v f selection marks next_key frozen in
    let covers : Covers u.forest unmarked v.forest marks =
    subst (λ n. Covers u.forest n v.forest marks) none (subst (λ n. Covers u.forest u.marks v.forest n) parts.1 m.marks)
    in
    subst (λ g. AreCovered u.forest g (marking marks)) (swept_alone v.forest ∙ parts.0)
    (covered u.forest v.forest marks m.ready.in_order covers (λ q there too. kind_stays u.forest v.forest q m.kinds there))

-- the next key is what the draft has come to
next_frozen : (v : Working) (f : Forest) (selection : Selection) (marks : Marked) (next_key : ℕ) → Freezes v f selection marks next_key → v.next_key ≡ next_key
unfolding freeze_step swept
next_frozen v f selection marks next_key frozen =
    let left : Working = record (swept v) { forest = f; selection = selection; marks = marks; next_key = next_key } in
    ap (λ (w : Working). w.next_key) (answered (freeze_fault (swept v)) (swept v) left frozen).1

-- a tree that stands alone has all nodes below its root
all_attached : (f : Forest) → IsForest f → roots f ≡ 0 ∷ [] → IsAlone f
all_attached f order only q there = ap (has q) (one_tree f order only) ∙ there

-- what is swept was there
has-swept : (f : Forest) (q : ℕ) → has q (drop_detached f) ≡ true → has q f ≡ true
unfolding drop_detached
has-swept f q there = attached_there f q there

-- What is joined and numbered, and is frozen, may be left.
left_frozen : (rules : List AnyRule) (v : Working) (f : Forest) (selection : Selection) (marks : Marked) (next_key : ℕ) → IsForest v.forest → IsJoined v.forest
    → AreListsNumbered v.forest
    → Freezes v f selection marks next_key → MayStart f next_key
    → IsLeft (record { tree = f; selection = selection; marks = marks; next_key = next_key; rules = rules })
left_frozen rules v f selection marks next_key order joined numbered frozen start =
    let parts = frozen_parts v f selection marks next_key frozen in
    let against = nothing_against v f selection marks next_key frozen in
    record {
      state = record {
        in_order = subst IsForest parts.0 (IsForest-drop_detached v.forest order);
        alone = subst (λ g. roots g ≡ 0 ∷ []) parts.0 (one_left v.forest order);
        start = start;
        within = against.1;
        selected = against.0;
        kept = kept_frozen v f selection marks next_key frozen;
        joined = subst IsJoined parts.0 (settling_ends.joined_swept v.forest order joined);
        numbered = subst AreListsNumbered parts.0 (numbered_swept v.forest order numbered);
      };
    }

-- what is left has grown from the tree that the draft began with
left_grown : (rules : List AnyRule) (u v : Working) (f : Forest) (selection : Selection) (marks : Marked) (next_key : ℕ) → AreMarked u v
    → AreCovered u.forest f (marking marks) → Freezes v f selection marks next_key
    → HasGrown u.forest u.next_key (record { tree = f; selection = selection; marks = marks; next_key = next_key; rules = rules })
left_grown rules u v f selection marks next_key m covers frozen = record {
  next_key = omega (arith, m.keys.next, next_frozen v f selection marks next_key frozen);
  kinds = covers.kinds;
  each = λ q there. m.keys.each q (has-swept v.forest q (ap (has q) (frozen_parts v f selection marks next_key frozen).0 ∙ there));
}

-- What came to rest of a draft, with its items numbered, and is frozen may be left, its marks cover it, and it has grown.
pub left_stands : (rules : List AnyRule) (u w v x : Working) (f : Forest) (selection : Selection) (marks : Marked) (next_key : ℕ) → IsFresh u
    → drafts.AreCovered u w → settle_step (answers_of rules) w ≡ Ok v
    → number_step v ≡ Ok x → IsRenumbered v.forest x.forest → Freezes x f selection marks next_key → MayStart f next_key
    → IsLeft (record { tree = f; selection = selection; marks = marks; next_key = next_key; rules = rules }) × AreCovered u.forest f (marking marks)
    × HasGrown u.forest u.next_key (record { tree = f; selection = selection; marks = marks; next_key = next_key; rules = rules })
    × IsSettledOf w (record { tree = f; selection = selection; marks = marks; next_key = next_key; rules = rules })
left_stands rules u w v x f selection marks next_key fresh c settled numbered renumbered frozen start =
    let answers = answers_of rules in
    let before : AreMarked u v = settling_ends.covers answers u w v c settled in
    let m : AreMarked u x = marked_on u v x before (covered-lists.number v x before.ready numbered) in
    let all : IsAlone u.forest = all_attached u.forest fresh.state.in_order fresh.state.alone in
    let joined : IsJoined v.forest = settling_ends.joins answers u w v (ready_start u fresh) all fresh.state.joined fresh.fresh c settled in
    let rested : IsRested answers v.forest v.marks = settling_ends.rests answers u w v (fresh.marks ∙ sym fresh.fresh) c settled in
    let covers : AreCovered u.forest f (marking marks) = left_covered u x f selection marks next_key fresh.marks m frozen in (
      left_frozen rules x f selection marks next_key m.ready.in_order (joined_on v.forest x.forest renumbered joined) renumbered.numbered frozen start,
      covers,
      left_grown rules u x f selection marks next_key m covers frozen,
      rest_settled rules w v x f selection marks next_key settled numbered frozen m.ready.in_order renumbered rested,
    )

-- What came to rest of an import, with its items numbered, and is frozen may be left, and is shown where a tree gave way to it.
pub import_stands : (rules : List AnyRule) (w v x : Working) (f : Forest) (selection : Selection) (marks : Marked) (next_key : ℕ)
    → settle_step (answers_of rules) w ≡ Ok v → number_step v ≡ Ok x
    → IsRenumbered v.forest x.forest → Freezes x f selection marks next_key → MayStart f next_key
    → IsLeftOfImport w (record { tree = f; selection = selection; marks = marks; next_key = next_key; rules = rules })
import_stands rules w v x f selection marks next_key settled numbered renumbered frozen start next im =
    let answers = answers_of rules in
    let left : Left = record { tree = f; selection = selection; marks = marks; next_key = next_key; rules = rules } in
    let u : Working = started w.forest Nothing w.next_key in
    let before : AreMarked w v = settling_ends.covers answers w w v (covered-self w im.covered.ready) settled in
    let m : AreMarked w x = marked_on w v x before (covered-lists.number v x before.ready numbered) in
    let order : IsForest x.forest = m.ready.in_order in
    let joined : IsJoined v.forest =
    settling_ends.joins_marked answers u w v refl im.covered (λ q there. im.all_marked q (attached_there w.forest q there)) settled in
    let rested : IsRested answers v.forest v.marks = settling_ends.rests answers u w v refl im.covered settled in
    let parts = frozen_parts x f selection marks next_key frozen in
    let tree_order : IsForest f = subst IsForest parts.0 (IsForest-drop_detached x.forest order) in
    let still : (q : ℕ) → has q f ≡ true → has q x.forest ≡ true = λ q there. has-swept x.forest q (ap (has q) parts.0 ∙ there) in
    let touched : (q : ℕ) → has q f ≡ true → is_touched marks q ≡ true =
    λ q there. ap (λ n. is_touched n q) (sym parts.1) ∙ all_touched w x next im m q (still q there) in (
      left_frozen rules x f selection marks next_key order (joined_on v.forest x.forest renumbered joined) renumbered.numbered frozen start,
      touched 0 (has-root f tree_order),
      rest_settled rules w v x f selection marks next_key settled numbered frozen order renumbered rested,
      λ old way.
          let shown = shown_by left old way.in_order tree_order touched (λ q was is. only_root w x next im m old way q was (still q is)) in (
            shown,
            record {
              next_key = omega (arith, im.rises, m.keys.next, next_frozen x f selection marks next_key frozen);
              kinds = shown.covered.kinds;
              each = λ q there. new_or_root w x next im m old way q (still q there);
            },
          ),
    )

-- ---- a commit

-- what leads somewhere fits in turn
pub leads_fit : (v w : HostTree) (ops : List Op) → Leads v ops w → FitInTurn v ops
leads_fit v w [] leads = tt
leads_fit v w (op ∷ ops) (mid, fits, is, rest) = (fits, subst (λ m. FitInTurn m ops) is (leads_fit mid w ops rest))

-- and nowhere else
pub same_end : (v w u : HostTree) (ops : List Op) → Leads v ops w → Leads v ops u → w ≡ u
same_end v w u [] first second = first ∙ sym second
same_end v w u (op ∷ ops) (mid, fits, is, rest) (other, fit, at, more) =
    same_end other w u ops (subst (λ m. Leads m ops w) (is ∙ sym at) rest) more

pub allowed_fit : (old new : Forest) (marks : Marked) (v : HostTree) (ops : List Op) → IsAllowed old new (marking marks) v ops → FitInTurn v ops
allowed_fit old new marks v ops (w, allowed) = leads_fit v w ops allowed.leads

-- what is recorded of an equal state is recorded
pub recorded_same : (before after entry : State) (marks : Marked) (how : Recording) (h mid g : History) → entry.links ≡ after.links
    → entry.selection ≡ after.selection → mid ≡ h
    → g ≡ noted before entry marks how.tags how.moment mid → g ≡ noted before after marks how.tags how.moment h
recorded_same before after entry marks how h mid g links selection same is =
    is
    ∙ ap (λ l. noted before (state_with l entry.selection) marks how.tags how.moment mid) links
    ∙ ap (λ s. noted before (state_with after.links s) marks how.tags how.moment mid) selection
    ∙ ap (λ k. noted before after marks how.tags how.moment k) same

-- An editor that has committed a state which may be committed, and which its view shows, is valid, where its history is kept.
pub valid_commit : (e : Editor) (state : State) (view : HostTree) (told : Told) (history : History) (kinds : ℕ → Kind)
    → IsState state.links state.selection e.next_key
    → Shows view state.links → HasKinds kinds state.links
    → EachEntry (λ s. IsEntry e.next_key s × HasKinds kinds s.links) history
    → IsValid (with_commit state view told history e)
valid_commit e state view told history kinds stands shows now entries = record {
  state = stands;
  shown = shows;
  none = λ zero. absurd (omega (arith, zero));
  some = λ none. absurd (cc);
  kept = record { kinds = kinds; now = now; entries = entries };
  pending = tt;
}

module _ (e : Editor) (how : Recording) (left : Left) (batch : Told) (may : MayCommit e left batch) (valid : IsValid e) (view : HostTree)
    (leads : Leads e.view batch.ops view)
    (history : History) (is_recorded : history ≡ recorded e how left) where
  -- what is between the trees and the view that it has come to
  reached : AreAllowed e.tree left.tree (is_touched left.marks) e.view batch.ops view
  reached =
      subst (λ w. AreAllowed e.tree left.tree (is_touched left.marks) e.view batch.ops w)
      (same_end e.view may.allowed.0 view batch.ops may.allowed.1.leads leads) may.allowed.1

  abbrev pub made : Editor
  made = with_commit (state_with left.tree left.selection) view batch history (record e { next_key = left.next_key; rules = left.rules })

  still_valid : IsValid made
  still_valid =
      let table = kinds e left valid.state valid.kept may.stands.state may.grown in
      let entries = entries_kept e left valid.state valid.kept may.stands.state may.grown how in
      valid_commit (record e { next_key = left.next_key; rules = left.rules }) (state_with left.tree left.selection) view batch history table
      may.stands.state reached.shows (new_kinds e left valid.state valid.kept may.stands.state may.grown)
      (subst (EachEntry (λ s. IsEntry left.next_key s × HasKinds table s.links)) (sym is_recorded) entries)

  -- what may be committed, and is, leaves a valid editor
  pub committed : IsValid made × IsCommitted e how left (e.commits + 1) batch.ops made
  committed = (
    still_valid,
    record {
      anew = may.anew;
      ids = may.ids;
      joined = may.stands.state.joined;
      numbered = may.stands.state.numbered;
      allowed = reached;
      reads = batch.reads;
      few = may.few;
      number = refl;
      made = ap (λ h. record made { history = h }) is_recorded;
    },
  )

-- ---- the view

first_whole : (f : Forest) → roots f ≡ 0 ∷ [] → first_tree (render f) ≡ render f
first_whole nil only = absurd (cc)
first_whole (tree l below nil) only = refl
first_whole (tree l below (tree m under rest)) only = absurd (cc)

-- what is printed of a view is the rendering of the tree that it shows
pub printed : (f : Forest) (view : HostTree) → roots f ≡ 0 ∷ [] → Shows view f → html_of (first_tree (shape_of view.hosts)) ≡ html_of (render f)
printed f view only shows = ap (λ s. html_of (first_tree s)) shows ∙ ap html_of (first_whole f only)

-- so it is where the view shows the root's tree
pub told_view : (f : Forest) (view : HostTree) → IsForest f → roots f ≡ 0 ∷ [] → Shows view (alone 0 f)
    → html_of (first_tree (shape_of view.hosts)) ≡ html_of (render f)
told_view f view order only shows = printed f view only (shows ∙ ap render (one_tree f order only))

-- ---- a load

-- the next key is above the root's
pub first_key : (f : Forest) (next_key : ℕ) → IsForest f → MayStart f next_key → 0 < next_key
first_key f next_key order start = grind (arith, start.free 0, has-root f order)

-- a committed tree may give way to a document whose keys are the next ones
pub may_give_way : (e : Editor) → IsValid e → MayGiveWay e.tree e.next_key
may_give_way e valid = record { in_order = valid.state.in_order; alone = valid.state.alone; free = valid.state.start.free }

-- the draft of a document leaves what it leaves at rest
pub load_left : (e : Editor) (d : Data) (w : Working) → imported d e.next_key ≡ Ok w → left_by_load e d ≡ rested_by e.rules w
unfolding left_by_load
load_left e d w is = ap (left_with e.rules) is

-- ---- a new editor

once_at : (q : ℕ) → count q root_alone < 2
once_at q = grind arith

-- the root is no text
no_text : (q : ℕ) → simple_at root_alone q ≡ None
no_text q = grind (arith, eqb_tells 0 q, eqb_tells q 0)

root_joined : IsJoined root_alone
root_joined = record {
  full = λ q here. ap is_empty_text (no_text q);
  apart = λ q n here next. ap (λ o. are_alike o (simple_at root_alone n)) (no_text q);
}

-- the root is no list
no_list : (q : ℕ) → is_at is_list root_alone q ≡ false
unfolding is_list
no_list q = grind (arith, eqb_tells 0 q, eqb_tells q 0)

pub root_numbered : AreListsNumbered root_alone
root_numbered = record { each = λ list there is i item at. absurd (let other : is_at is_list root_alone list ≡ false = no_list list in cc) }

pub root_in_order : IsForest root_alone
root_in_order = record { once = λ q. once_at q; rising = refl; root = refl }

root_kinds : HasKinds (λ q. Root) root_alone
root_kinds q there = grind (arith, there, eqb_tells 0 q, eqb_tells q 0)

pub new_valid : (f : Forest) (selection : Selection) (view : HostTree) (history : History) (delay : ℕ) (rules : List AnyRule) (listeners : List Listener)
    (tells_view : Bool) → f ≡ root_alone → selection ≡ Nothing → view ≡ new_tree → history ≡ new_history delay → MayStart f 1
    → IsValid
    (record { tree = f; selection = selection; next_key = 1; pending = None; commits = 0; view = view; last = None; history = history; moment = 0; rules = rules; listeners = listeners; tells_view = tells_view })
unfolding is_text_block capped characters_of characters_of_element characters_of_extra
new_valid f selection view history delay rules listeners tells_view alone none shown nothing start = record {
  state = record {
    in_order = subst IsForest (sym alone) root_in_order;
    alone = subst (λ g. roots g ≡ 0 ∷ []) (sym alone) refl;
    start = start;
    within = subst (λ g. limits_fault g 1 ≡ None) (sym alone) refl;
    selected = subst (λ s. selection_lost s f ≡ None) (sym none) refl;
    kept = subst (λ s. kept_selection f s ≡ s) (sym none) refl;
    joined = subst IsJoined (sym alone) root_joined;
    numbered = subst AreListsNumbered (sym alone) root_numbered;
  };
  shown = subst (Shows view) (sym alone) (subst (λ v. Shows v root_alone) (sym shown) refl);
  none = λ zero. refl;
  some = λ gone. refl;
  kept = record {
    kinds = λ q. Root;
    now = subst (HasKinds (λ q. Root)) (sym alone) root_kinds;
    entries =
        subst (EachEntry (λ s. IsEntry 1 s × HasKinds (λ q. Root) s.links)) (sym nothing)
        (record { undo = All-nil (λ s. IsEntry 1 s × HasKinds (λ q. Root) s.links); redo = All-nil (λ s. IsEntry 1 s × HasKinds (λ q. Root) s.links); current = tt });
  };
  pending = tt;
}
