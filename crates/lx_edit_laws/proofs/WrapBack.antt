-- What a wrapped node leaves, and that to unwrap it gives the old forest.
use Rattle.std.proofs.Common.{◌≡◌, ◌≢◌, ◌∙◌, ℕ, true, false, cond, eqb, [], ◌∷◌, ◌++◌, None, Some, Result, Ok, sym, ap, ap₂, subst, arith, append-nil, inl, inr}
use Rattle.std.proofs.lemmas.Bool.Decides.{eqb_tells}
use Rattle.lx_trees.specs.Siblings.{is_among, names_without, names_with}
use Rattle.lx_node.specs.declared.cause.Cause.{Cause}
use Rattle.lx_trees.proofs.Siblings.{is_among-names_with, names_without-absent_list}
use Rattle.lx_forest.specs.Forest.{Forest}
use Rattle.lx_forest.specs.Lookups.{kind_of, parent_of, children_of, IsForest}
use Rattle.lx_forest.specs.Edits.{take_out}
use Rattle.lx_forest.proofs.Lookups.{NoRepeats-children_of}
use Rattle.lx_links.specs.Faults.{misfit}
use Rattle.lx_draft.specs.Working.{Working}
use Rattle.lx_draft.specs.Faults.{after, text_in}
use Rattle.lx_draft.specs.Beside.{put_before_step}
use Rattle.lx_draft.proofs.Gaps.{child_of, parent_here}
use Rattle.lx_edit.specs.InTurn.{in_turn}
use Rattle.lx_edit.specs.Conditions.{wrap_fault}
use Rattle.lx_edit.specs.Edits.{moved_before, moved_to_end, wrap_step, unwrap_step}
use Rattle.lx_edit.specs.Texts.{text_or_none}
use Rattle.lx_edit.proofs.Climbed.{first_part}
use Rattle.lx_edit_laws.specs.Reading.{text_at, read_below, in_place_of}
use Rattle.lx_edit_laws.specs.Wraps.{IsWrapped}
use Rattle.lx_edit_laws.proofs.Reading.{reads_of, read-level, reads_by, reads_known, reads-in_place, kind_known}
use Rattle.lx_edit_laws.proofs.WrapLists.{in_its_place}
use Rattle.lx_edit_laws.proofs.WrapSteps.{was_allowed, was_same, was_put_before, before_below, was_moved_to_end, was_moved_before, silent_holder}
use Rattle.lx_edit_laws.proofs.WrapTrees.{different, not_child, WasMoved, IsForest-moved, label_of-moved, parent_of-moved, children_of-moved, moved_twice, beside, MayStandBefore, not_new, apart, beside-order, beside-label, beside-parent, beside-children, stood_aside}
use Rattle.lx_edit_laws.proofs.WrapTurns.{came_before, removed_alone}
use Rattle.lx_edit_laws.proofs.WrapTold.{was_unwrapped}

-- ---- wrapped

-- the outer one was put before k among the children of p, and k moved into it
pub record HasWrapped (f g : Forest) (p k outer : ℕ) : Type 0 where
  pub may : MayStandBefore f p k outer
  pub empty : children_of f outer ≡ []
  pub silent : text_at f outer ≡ []
  pub moved : WasMoved (beside p k outer f) g outer k None

pub was_wrapped : (k outer : ℕ) (w v : Working) → IsWrapped k outer w v → (p : ℕ) × HasWrapped w.forest v.forest p k outer
unfolding wrap_step
was_wrapped k outer w v e =
    let f : Forest = w.forest in
    let h = e.ready.in_order in
    let allowed = was_allowed (wrap_fault k outer f) w v (λ x. after (put_before_step outer k x) (moved_to_end outer k)) e.wrapped in
    let inner = kind_known f k (grind (arith, allowed.0)) in
    let a = first_part (put_before_step outer k w) (moved_to_end outer k) v allowed.1 in
    let below = before_below outer k w a.0 a.1 in
    let put = was_put_before outer k below.0 w a.0 h below.1 a.1 in (
      below.0,
      record {
        may = record { in_order = h; up = below.1; can = put.0 };
        empty = e.empty;
        silent = silent_holder f outer inner.0 (ap (misfit (kind_of f outer)) (sym inner.1) ∙ grind (arith, allowed.0));
        moved = subst (λ x. WasMoved x v.forest outer k None) put.1 (was_moved_to_end outer k a.0 v a.2);
      },
    )

module _ (f g : Forest) (p k outer : ℕ) (s : HasWrapped f g p k outer) where
  abbrev put : Forest
  put = beside p k outer f

  h : IsForest f
  h = s.may.in_order

  put_order : IsForest put
  put_order = beside-order f p k outer s.may

  pub wrapped_order : IsForest g
  wrapped_order = IsForest-moved put g outer k None put_order s.moved

  pub outer_up : parent_of g outer ≡ Some p
  outer_up =
      let now = parent_of-moved put g outer k None put_order s.moved outer in
      grind (arith, now, beside-parent f p k outer s.may outer, apart f p k outer s.may, eqb_tells outer k, eqb_tells outer outer)

  now : (q : ℕ) → children_of g q ≡ cond (eqb q outer) (names_with None (k ∷ []) (names_without k (children_of put q))) (names_without k (children_of put q))
  now = children_of-moved put g outer k None put_order s.moved

  -- k is the only child of the outer one ..
  pub outer_children : children_of g outer ≡ k ∷ []
  outer_children =
      grind (arith, now outer, beside-children f p k outer s.may outer, not_new f p k outer s.may, s.empty, eqb_tells outer outer, eqb_tells outer p)

  -- .. which is in the place of k
  pub outer_place : children_of g p ≡ in_place_of k (outer ∷ []) (children_of f p)
  outer_place =
      let left : children_of g p ≡ names_without k (names_with (Some k) (outer ∷ []) (children_of f p)) =
      grind (arith, now p, beside-children f p k outer s.may p, not_new f p k outer s.may, eqb_tells p p, eqb_tells p outer) in
      left ∙ in_its_place k (outer ∷ []) (children_of f p) (NoRepeats-children_of f p h) (child_of f p k h s.may.up)
      (grind (arith, apart f p k outer s.may, eqb_tells outer k))

  -- any other node has the children that it had, and k isn't one of them
  other_children : (q : ℕ) → q ≢ p → q ≢ outer → children_of g q ≡ children_of f q
  other_children q not_p away =
      let gone = names_without-absent_list k (children_of f q) (not_child f k p q h s.may.up (λ e. not_p (sym e))) in
      grind (arith, now q, beside-children f p k outer s.may q, not_p, away, gone, eqb_tells q p, eqb_tells q outer)

  texts : (q : ℕ) → text_at g q ≡ text_at f q
  texts q = ap (λ o. text_or_none (text_in o)) (label_of-moved put g outer k None put_order s.moved q ∙ beside-label f p k outer s.may q)

  -- and the same is read
  pub read_wrapped : (b : ℕ) → b ≢ outer → read_below g b ≡ read_below f b
  read_wrapped b away = reads_by f g (λ q. eqb q outer) h wrapped_order (λ b clear known. record {
    text = texts b;
    below = elim (eqb_tells b p) [
      | inl here ↦ rw here.1 (
          ap (reads_of g) outer_place
          ∙ reads-in_place f g k (outer ∷ []) (children_of f p) (NoRepeats-children_of f p h)
          (append-nil (read_below g outer) ∙ read-level g outer wrapped_order
          ∙ ap₂ (λ t ks. t ++ reads_of g ks) (texts outer ∙ s.silent) outer_children ∙ append-nil (read_below g k)
          ∙ known.child k (s.may.up ∙ ap (λ x. Some x) (sym here.1)) (different k outer (apart f p k outer s.may)))
          (λ q there not_k. let up : parent_of f q
          ≡ Some p = parent_here f p q h there in known.child q (up ∙ ap (λ x. Some x) (sym here.1)) (not_outer q p up))
          )
      | inr not_p ↦
          ap (reads_of g) (other_children b not_p.1 (λ e. absurd (grind (arith, e, clear, eqb_tells b outer))))
          ∙ reads_known f g (λ q. eqb q outer) b h known (λ q up. not_outer q b up)
    ];
  }) b (different b outer away) where
    not_outer : (q a : ℕ) → parent_of f q ≡ Some a → eqb q outer ≡ false
    not_outer q a up = grind (arith, up, s.may.can.detached, eqb_tells q outer)

-- ---- to unwrap what was wrapped

one_turn : (step : ℕ → Working → Result Working Cause) (k : ℕ) (w v : Working) → in_turn step (k ∷ []) w ≡ Ok v → step k w ≡ Ok v
unfolding in_turn
one_turn step k w v e =
    let a = first_part (step k w) (in_turn step []) v e in
    subst (λ x. step k w ≡ Ok x) (was_same a.0 v a.2) a.1

pub unwrapped_again : (f : Forest) (p k outer : ℕ) (v u : Working) → HasWrapped f v.forest p k outer → unwrap_step outer v ≡ Ok u → u.forest ≡ f
unwrapped_again f p k outer v u s e =
    let g : Forest = v.forest in
    let x = was_unwrapped outer v u e in
    let order = wrapped_order f g p k outer s in
    let up = outer_up f g p k outer s in
    let below = outer_children f g p k outer s in
    let other : k ≢ outer = apart f p k outer s.may in
    let each : in_turn (moved_before outer) (k ∷ []) v ≡ Ok x.mid = ap (λ ks. in_turn (moved_before outer) ks v) (sym below) ∙ x.each in
    let m = was_moved_before outer k p v x.mid order up (λ y. other (sym y)) (one_turn (moved_before outer) k v x.mid each) in
    let came = came_before p outer (k ∷ []) v x.mid order up below each in
    let beside : is_among k (children_of x.last.forest p) ≡ true =
    ap (λ y. is_among k (children_of y p)) x.same ∙ ap (is_among k) came.there ∙ is_among-names_with (Some outer) (k ∷ []) (children_of g p) k
    ∙ grind (arith, eqb_tells k k) in
    removed_alone outer p k x.last u (subst IsForest (sym x.same) came.in_order) (ap (λ y. parent_of y outer) x.same ∙ came.up) beside other x.gone
    ∙ ap (take_out outer) x.same
    ∙ stood_aside f p k outer s.may x.mid.forest
    (moved_twice (put f g p k outer s) g outer k None (put_order f g p k outer s) s.moved x.mid.forest p (Some outer) m)
