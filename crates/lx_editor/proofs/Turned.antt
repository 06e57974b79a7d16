-- Undo and redo: operations for marks of what differs are operations for marks of every node of both trees.
use Rattle.std.proofs.Common.{◌≡◌, ◌∙◌, ◌+◌, ◌≤◌, ◌&&◌, ℕ, Bool, true, false, cond, length, List, [], ◌∷◌, Option, None, Some, refl, sym, ap, subst, inl, inr, arith}
use Rattle.std.specs.List.{AllByRecursion}
use Rattle.std.specs.Prelude.{MatchBool, IsSomeAnd, IsTrue}
use Rattle.std.proofs.lemmas.Bool.{cases_Bool}
use Rattle.lx_trees.specs.Trees.{nil, tree}
use Rattle.lx_node.specs.declared.kind.Kind.{Kind}
use Rattle.lx_host.specs.declared.op.Op.{Op}
use Rattle.lx_host.specs.Hosts.{HostTree, Leads}
use Rattle.lx_marks.specs.Marks.{Marked, is_touched, is_noted}
use Rattle.lx_compare.specs.Differing.{KeepsKinds, AreKnown}
use Rattle.lx_compare.specs.Places.{IsAsBefore, IsOutside, DifferAt}
use Rattle.lx_history.specs.Told.{IsAway}
use Rattle.lx_step.specs.declared.built_in.Turn.{Turn}
use Rattle.lx_step.specs.declared.built_in.Turn.TheVariants.{Undo, Redo}
use Rattle.lx_forest.specs.Forest.{Forest}
use Rattle.lx_forest.specs.Lookups.{has, roots}
use Rattle.lx_reconcile.specs.Allowed.{MayChange, new_host, of_touched, of_child, IsDue, AreAllowed, subject_of, marked_children, staying}
use Rattle.lx_draft.specs.declared.state.State.{State}
use Rattle.lx_history.specs.History.{History, first, next_entry, undone_to, redone_to, undone, redone, history_turned}
use Rattle.lx_reconcile.specs.Allowing.{marking, IsAllowed}
use Rattle.lx_reconcile.specs.Told.{Told}
use Rattle.lx_editor.specs.Editor.{Editor}
use Rattle.lx_editor.specs.Standing.{HasKinds, IsEntry, IsValid}
use Rattle.lx_editor.specs.Turned.{is_in_either, IsTurned}
use Rattle.lx_editor.specs.Updated.{with_commit}
use Rattle.lx_reconcile.specs.Reading.{most_reads}
use Rattle.lx_editor.specs.Judged.{all_marked, MayTurn}
use Rattle.lx_editor.proofs.Changed.{state_is}
use Rattle.lx_editor.proofs.Kept.{turned_each, entry_each}
use Rattle.lx_editor.proofs.Updated.{same_end, valid_commit}

-- ---- marks of nodes of the two trees

-- keys keep their kinds where each has one kind
pub keeps_kinds : (kinds : ℕ → Kind) (old new : Forest) → HasKinds kinds old → HasKinds kinds new → KeepsKinds old new
keeps_kinds kinds old new before after q was is = before q was ∙ sym (after q is)

-- more marked nodes have more children
more_of : (a b : Bool) (n : ℕ) → (a ≡ true → b ≡ true) → cond a n 0 ≤ cond b n 0
more_of true b n more = rw (more refl) (omega arith)
more_of false b n more = omega arith

more_children : (noted other : ℕ → Bool) (f : Forest) → ((q : ℕ) → noted q ≡ true → other q ≡ true) → marked_children noted f ≤ marked_children other f
more_children noted other nil more = omega arith
more_children noted other (tree l b t) more =
    omega (arith, more_of (noted l.key) (other l.key) (length (roots b)) (more l.key), more_children noted other b more, more_children noted other t more)

more_stay : (a b c : Bool) → (a ≡ true → b ≡ true) → (a && c) ≡ true → (b && c) ≡ true
more_stay true b c more e = ap (λ x. x && c) (more refl) ∙ e
more_stay false b c more e = absurd (cc)

module _ (old new : Forest) (marks : Marked) (known : AreKnown old new marks) where
  may_change : (v : HostTree) (id : ℕ) → MayChange old new (is_touched marks) v id → MayChange old new (is_in_either old new) v id
  may_change v _ (new_host id out) = new_host id out
  may_change v _ (of_touched id key among e) = of_touched id key among (known.touched key e)
  may_change v _ (of_child id key parent among up stays e) = of_child id key parent among up stays (known.touched parent e)

  known_due : (v : HostTree) (ops : List Op) → AllByRecursion (IsDue old new (is_touched marks) v) ops
      → AllByRecursion (IsDue old new (is_in_either old new) v) ops
  known_due v [] due = tt
  known_due v (op ∷ ops) due = (record { subject = may_change v (subject_of op) due.0.subject; place = due.0.place; drop = due.0.drop }, known_due v ops due.1)

  -- what is allowed for them is allowed where all nodes of both trees are marked
  pub known_allowed : (v : HostTree) (ops : List Op) → IsAllowed old new (marking marks) v ops → IsAllowed old new (all_marked old new) v ops
  known_allowed v ops (w, a) = (w, record { leads = a.leads; shows = a.shows; keeps = a.keeps; due = known_due v ops a.due; writes = a.writes })

  -- and few reads for them are few for all
  pub known_few : (n : ℕ) → n ≤ most_reads old new (is_noted marks) → n ≤ most_reads old new (is_in_either old new)
  known_few n few =
      omega (
        arith,
        few,
        more_children (staying (is_noted marks) new) (staying (is_in_either old new) new) old (λ q. more_stay (is_noted marks q) (is_in_either old new q)
            (has q new) (known.noted q)),
        more_children (is_noted marks) (is_in_either old new) new known.noted,
      )

-- ---- an undo or a redo

abbrev pub current_in : Option History → Option State
current_in None = None
current_in (Some h) = h.current

-- the history comes to the entry that is next
pub comes_to : (turn : Turn) (moment : ℕ) (h g : History) (state : State) → next_entry turn h ≡ Some state → history_turned turn moment h ≡ Some g
    → g.current ≡ Some state
unfolding undone redone
comes_to Undo moment h g state next turns = back h.undo next turns where
  back : (xs : List State) → first xs ≡ Some state → undone_to moment xs h ≡ Some g → g.current ≡ Some state
  back [] none is = absurd (cc)
  back (s ∷ xs) one is = sym (ap (λ o. current_in o) is) ∙ one
comes_to Redo moment h g state next turns = forth h.redo next turns where
  forth : (xs : List State) → first xs ≡ Some state → redone_to moment xs h ≡ Some g → g.current ≡ Some state
  forth [] none is = absurd (cc)
  forth (s ∷ xs) one is = sym (ap (λ o. current_in o) is) ∙ one

-- the entry is one that may be committed, and its nodes have the kinds of their keys
pub entry_kept : (e : Editor) (valid : IsValid e) (turn : Turn) (state : State) → next_entry turn e.history ≡ Some state
    → IsEntry e.next_key state × HasKinds valid.kept.kinds state.links
entry_kept e valid turn state next = entry_each (λ s. IsEntry e.next_key s × HasKinds valid.kept.kinds s.links) turn e.history state valid.kept.entries next

-- a copy of the entry that the history gives is its next one
pub next_copied : (turn : Turn) (h : History) (told : Option State) (entry state : State) → told ≡ next_entry turn h → told ≡ Some entry
    → state.links ≡ entry.links → state.selection ≡ entry.selection
    → next_entry turn h ≡ Some state
next_copied turn h told entry state tells is links selection = sym tells ∙ is ∙ ap (λ s. Some s) (sym (state_is state entry links selection))

-- where there is an entry the history turns
never_still : (turn : Turn) (moment : ℕ) (h : History) (state : State) → next_entry turn h ≡ Some state → history_turned turn moment h ≡ None → ⊥
unfolding undone redone
never_still Undo moment h state next none = back h.undo next none where
  back : (xs : List State) → first xs ≡ Some state → undone_to moment xs h ≡ None → ⊥
  back [] one none = cc
  back (s ∷ xs) one none = cc
never_still Redo moment h state next none = forth h.redo next none where
  forth : (xs : List State) → first xs ≡ Some state → redone_to moment xs h ≡ None → ⊥
  forth [] one none = cc
  forth (s ∷ xs) one none = cc

pub has_turned : (b : Bool) (turn : Turn) (moment : ℕ) (h mid g : History) (state : State) → next_entry turn h ≡ Some state → mid ≡ h
    → MatchBool b (history_turned turn moment mid ≡ Some g) ((history_turned turn moment mid ≡ None) × (g ≡ mid)) → history_turned turn moment h ≡ Some g
has_turned true turn moment h mid g state next same did = subst (λ k. history_turned turn moment k ≡ Some g) same did
has_turned false turn moment h mid g state next same (none, still) =
    absurd (never_still turn moment h state next (subst (λ k. history_turned turn moment k ≡ None) same none))

module _ (e : Editor) (turn : Turn) (moment : ℕ) (state : State) (batch : Told) (may : MayTurn e turn state batch) (valid : IsValid e) (view : HostTree)
    (leads : Leads e.view batch.ops view)
    (history : History) (turns : history_turned turn moment e.history ≡ Some history) where
  reached : AreAllowed e.tree state.links (is_in_either e.tree state.links) e.view batch.ops view
  reached =
      subst (λ w. AreAllowed e.tree state.links (is_in_either e.tree state.links) e.view batch.ops w)
      (same_end e.view may.allowed.0 view batch.ops may.allowed.1.leads leads) may.allowed.1

  abbrev pub made : Editor
  made = with_commit state view batch history e

  still_valid : IsValid made
  still_valid =
      let kept = entry_kept e valid turn state may.next in
      valid_commit e state view batch history valid.kept.kinds kept.0 reached.shows kept.1
      (turned_each (λ s. IsEntry e.next_key s × HasKinds valid.kept.kinds s.links) turn moment e.history history valid.kept.entries turns)

  -- where the history may turn, and does, it leaves a valid editor
  pub is_turned : IsValid made × IsTurned turn moment e (e.commits + 1) batch.ops made
  is_turned = (
    still_valid,
    record {
      entry = state;
      next = may.next;
      turns = turns;
      current = comes_to turn moment e.history history state may.next turns;
      ids = may.ids;
      allowed = reached;
      reads = batch.reads;
      few = may.few;
      joined = may.stands.joined;
      numbered = may.stands.numbered;
      number = refl;
      made = refl;
    },
  )

-- ---- where trees may differ

-- what is as before in two steps is so in both ways
as_between : (mid old new : Forest) (q : ℕ) → IsAsBefore mid old q → IsAsBefore mid new q → IsAsBefore old new q
as_between mid old new q (inl was) (inl is) = inl (was.1, is.1)
as_between mid old new q (inl was) (inr is) = absurd (let clash : false ≡ true = sym was.0 ∙ is.was in cc)
as_between mid old new q (inr was) (inl is) = absurd (let clash : true ≡ false = sym was.was ∙ is.0 in cc)
as_between mid old new q (inr was) (inr is) = inr (record {
  was = was.stays;
  stays = is.stays;
  fields = sym was.fields ∙ is.fields;
  parent = sym was.parent ∙ is.parent;
  previous = sym was.previous ∙ is.previous;
  next = sym was.next ∙ is.next;
})

-- where the committed tree and an entry's differ from the current one only at these places, they differ from each other only there
pub told_between : (current : Option State) (places since : Option (List ℕ)) (old new : Forest) → IsSomeAnd current (λ c. DifferAt places c.links new)
    → IsAway current since old
    → (q : ℕ) → IsOutside places q → IsOutside since q → IsAsBefore old new q
told_between None places since old new told away q first later = absurd told
told_between (Some c) places since old new told away q first later = as_between c.links old new q (away q later) (told q first)

as_itself : (f : Forest) (q : ℕ) → IsAsBefore f f q
as_itself f q = elim (cases_Bool (has q f)) [
  | inl there ↦ inr (record { was = there; stays = there; fields = refl; parent = refl; previous = refl; next = refl })
  | inr out ↦ inl (out, out)
]

-- where the history has turned, the current state is what is committed
pub turned_away : (b : Bool) (turn : Turn) (moment : ℕ) (h mid g : History) (state : State) (strays : Option (List ℕ)) → next_entry turn h ≡ Some state → mid ≡ h
    → MatchBool b (history_turned turn moment mid ≡ Some g) ((history_turned turn moment mid ≡ None) × (g ≡ mid)) → (IsTrue b → strays ≡ Some []) → g.current ≡ Some state
    → IsAway g.current strays state.links
turned_away true turn moment h mid g state strays next same did none is =
    subst (λ o. IsAway o strays state.links) (sym is) (subst (λ p. DifferAt p state.links state.links) (sym (none refl)) (λ q out. as_itself state.links q))
turned_away false turn moment h mid g state strays next same (none, still) told is =
    absurd (never_still turn moment h state next (subst (λ k. history_turned turn moment k ≡ None) same none))
