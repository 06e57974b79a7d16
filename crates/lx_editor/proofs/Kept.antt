-- What the history keeps may be committed again, whatever is committed meanwhile.
use Rattle.std.proofs.Common.{◌≡◌, ◌∙◌, ◌≤◌, zero, suc, ℕ, true, false, ltb, is_some, if◌then◌else◌, option_map, take, All, IfSome, List, [], ◌∷◌, Option, None, Some, refl, sym, ap, subst, arith, inl, inr}
use Rattle.std.proofs.lemmas.Bool.{cases_Bool}
use Rattle.std.proofs.lemmas.List.Elements.{All-nil, All-cons, All-head, All-tail}
use Rattle.lx_trees.specs.Spots.{Spot}
use Rattle.lx_node.specs.declared.kind.Kind.{Kind}
use Rattle.lx_node.specs.declared.kind.Kind.TheVariants.{Root}
use Rattle.lx_marks.specs.Marks.{Marked}
use Rattle.lx_step.specs.declared.built_in.Turn.{Turn}
use Rattle.lx_step.specs.declared.built_in.Turn.TheVariants.{Undo, Redo}
use Rattle.lx_step.specs.declared.line.Tags.{Tags}
use Rattle.lx_forest.specs.Forest.{Forest, Label}
use Rattle.lx_forest.specs.Lookups.{has, spot, kind_of}
use Rattle.lx_forest.proofs.Edits.{is_some-spot}
use Rattle.lx_draft.specs.declared.state.State.{State}
use Rattle.lx_history.specs.declared.kinds.Action.{Action}
use Rattle.lx_history.specs.declared.kinds.Action.TheVariants.{Push, Merge, Discard}
use Rattle.lx_history.specs.History.{History, most_entries, entry_before, first, next_entry, action_of, history_recorded, noted, undone_to, redone_to, undone, redone, history_turned}
use Rattle.lx_editor.specs.declared.recording.Recording.{Recording}
use Rattle.lx_editor.specs.Editor.{Editor}
use Rattle.lx_editor.specs.Standing.{IsState, HasKinds, IsEntry, EachEntry, IsReturnable}
use Rattle.lx_editor.specs.Updated.{Left, state_with, recorded as recorded_after}
use Rattle.lx_editor.specs.Judged.{HasGrown}
use Rattle.lx_editor.proofs.Limits.{state_rises}

-- ---- each entry of a history

-- what an answer says, if it says anything
abbrev told_or : History → Option History → History
told_or h None = h
told_or h (Some g) = g

abbrev pub state_or : State → Option State → State
state_or t None = t
state_or t (Some u) = u

module _ (P Q : State → Type 0) (each : (s : State) → P s → Q s) where
  all_each : (xs : List State) → All P xs → All Q xs
  all_each [] h = All-nil Q
  all_each (x ∷ xs) h = All-cons Q x xs (each x (All-head P x xs h)) (all_each xs (All-tail P x xs h))

  one_each : (o : Option State) → IfSome o P → IfSome o Q
  one_each None h = tt
  one_each (Some s) h = each s h

  -- what follows for each state follows for the history's
  pub entries_each : (h : History) → EachEntry P h → EachEntry Q h
  entries_each h e = record { undo = all_each h.undo e.undo; redo = all_each h.redo e.redo; current = one_each h.current e.current }

module _ (P : State → Type 0) where
  all_take : (n : ℕ) (xs : List State) → All P xs → All P (take n xs)
  all_take zero xs h = All-nil P
  all_take (suc n) [] h = All-nil P
  all_take (suc n) (x ∷ xs) h = All-cons P x (take n xs) (All-head P x xs h) (all_take n xs (All-tail P x xs h))

  all_with : (o : Option State) (xs : List State) → IfSome o P → All P xs → All P (entry_before o xs)
  all_with None xs h all = all
  all_with (Some s) xs h all = All-cons P s xs h all

  recorded_each : (action : Action) (after : State) (h : History) → P after → EachEntry P h → EachEntry P (history_recorded action after h)
  recorded_each Push after h p e =
      record { undo = all_take most_entries (entry_before h.current h.undo) (all_with h.current h.undo e.current e.undo); redo = All-nil P; current = p }
  recorded_each Merge after h p e = record { undo = e.undo; redo = e.redo; current = p }
  recorded_each Discard after h p e = e

  -- what holds of the new state and of each entry holds of each entry after
  noted_each : (before after : State) (marks : Marked) (tags : Tags) (moment : ℕ) (h : History) → P after → EachEntry P h
      → EachEntry P (noted before after marks tags moment h)
  unfolding noted
  noted_each before after marks tags moment h p e =
      let r = recorded_each (action_of h before after marks tags moment) after h p e in record { undo = r.undo; redo = r.redo; current = r.current }

  undone_each : (moment : ℕ) (xs : List State) (h g : History) → All P xs → EachEntry P h → undone_to moment xs h ≡ Some g → EachEntry P g
  undone_each moment [] h g all e is = absurd (cc)
  undone_each moment (s ∷ xs) h g all e is =
      subst (EachEntry P) (ap (told_or g) is)
      (record { undo = All-tail P s xs all; redo = all_with h.current h.redo e.current e.redo; current = All-head P s xs all })

  redone_each : (moment : ℕ) (xs : List State) (h g : History) → All P xs → EachEntry P h → redone_to moment xs h ≡ Some g → EachEntry P g
  redone_each moment [] h g all e is = absurd (cc)
  redone_each moment (s ∷ xs) h g all e is =
      subst (EachEntry P) (ap (told_or g) is)
      (record { undo = all_with h.current h.undo e.current e.undo; redo = All-tail P s xs all; current = All-head P s xs all })

  -- so it does where the history turns
  pub turned_each : (turn : Turn) (moment : ℕ) (h g : History) → EachEntry P h → history_turned turn moment h ≡ Some g → EachEntry P g
  unfolding undone redone
  turned_each Undo moment h g e is = undone_each moment h.undo h g e.undo e is
  turned_each Redo moment h g e is = redone_each moment h.redo h g e.redo e is

  first_each : (xs : List State) (s : State) → All P xs → first xs ≡ Some s → P s
  first_each [] s all is = absurd (cc)
  first_each (x ∷ xs) s all is = subst P (ap (state_or s) is) (All-head P x xs all)

  -- and of the entry to which it turns
  pub entry_each : (turn : Turn) (h : History) (s : State) → EachEntry P h → next_entry turn h ≡ Some s → P s
  entry_each Undo h s e is = first_each h.undo s e.undo is
  entry_each Redo h s e is = first_each h.redo s e.redo is

-- ---- kinds by keys

abbrev pub kind_or_root : Option Kind → Kind
kind_or_root None = Root
kind_or_root (Some kind) = kind

-- a node that is there has a kind
kind_there : (f : Forest) (q : ℕ) → has q f ≡ true → kind_of f q ≡ Some (kind_or_root (kind_of f q))
kind_there f q there = from_spot (spot f q) refl where
  from_spot : (o : Option (Spot Label)) → spot f q ≡ o → kind_of f q ≡ Some (kind_or_root (kind_of f q))
  from_spot None at = absurd (let none = ap is_some at in let e = is_some-spot f q in cc)
  from_spot (Some x) at =
      let own : kind_of f q ≡ Some x.label.kind = ap (λ o. option_map (λ (l : Label). l.kind) (option_map (λ (s : Spot Label). s.label) o)) at in
      own ∙ ap (λ o. Some (kind_or_root o)) (sym own)

-- the kinds below a key, and from it on those of the nodes of a tree
abbrev pub kinds_with : (ℕ → Kind) → ℕ → Forest → ℕ → Kind
kinds_with kinds next f q = if ltb q next then kinds q else kind_or_root (kind_of f q)

kinds_below : (kinds : ℕ → Kind) (next : ℕ) (f : Forest) (q : ℕ) → ltb q next ≡ true → kinds_with kinds next f q ≡ kinds q
kinds_below kinds next f q less = ap (λ b. if b then kinds q else kind_or_root (kind_of f q)) less

kinds_above : (kinds : ℕ → Kind) (next : ℕ) (f : Forest) (q : ℕ) → ltb q next ≡ false → kinds_with kinds next f q ≡ kind_or_root (kind_of f q)
kinds_above kinds next f q more = ap (λ b. if b then kinds q else kind_or_root (kind_of f q)) more

-- where keys from the next one on are free, a node's key is below it
key_below : (f : Forest) (next q : ℕ) → ((k : ℕ) → next ≤ k → has k f ≡ false) → has q f ≡ true → ltb q next ≡ true
key_below f next q free there = elim (cases_Bool (ltb q next)) [
  | inl less ↦ less
  | inr more ↦ absurd (let above : next ≤ q = grind (arith, more) in let gone = free q above in cc)
]

-- ---- a commit

module _ (e : Editor) (left : Left) (stands : IsState e.tree e.selection e.next_key) (kept : IsReturnable e) (state : IsState left.tree left.selection left.next_key)
    (grown : HasGrown e.tree e.next_key left) where
  abbrev pub kinds : ℕ → Kind
  kinds = kinds_with kept.kinds e.next_key left.tree

  still_kinds : (f : Forest) → ((k : ℕ) → e.next_key ≤ k → has k f ≡ false) → HasKinds kept.kinds f → HasKinds kinds f
  still_kinds f free have q there = have q there ∙ ap (λ k. Some k) (sym (kinds_below kept.kinds e.next_key left.tree q (key_below f e.next_key q free there)))

  pub new_kinds : HasKinds kinds left.tree
  new_kinds q there = elim (grown.each q there) [
    | inl was ↦ sym (grown.kinds q was there) ∙ still_kinds e.tree stands.start.free kept.now q was
    | inr above ↦ kind_there left.tree q there ∙ ap (λ k. Some k) (sym (kinds_above kept.kinds e.next_key left.tree q (not_below above)))
  ] where
    not_below : e.next_key ≤ q → ltb q e.next_key ≡ false
    not_below above = grind (arith, above)

  rises : (s : State) → IsEntry e.next_key s × HasKinds kept.kinds s.links → IsEntry left.next_key s × HasKinds kinds s.links
  rises s (st, have) =
      (state_rises s.links left.tree s.selection left.selection e.next_key left.next_key st state grown.next_key, still_kinds s.links st.start.free have)

  -- with what is left, however it is recorded, each state is kept
  pub entries_kept : (how : Recording) → EachEntry (λ s. IsEntry left.next_key s × HasKinds kinds s.links) (recorded_after e how left)
  entries_kept how =
      noted_each (λ s. IsEntry left.next_key s × HasKinds kinds s.links) (state_with e.tree e.selection) (state_with left.tree left.selection) left.marks
      how.tags how.moment e.history
      (state, new_kinds)
      (entries_each (λ s. IsEntry e.next_key s × HasKinds kept.kinds s.links) (λ s. IsEntry left.next_key s × HasKinds kinds s.links) rises e.history
      kept.entries)
