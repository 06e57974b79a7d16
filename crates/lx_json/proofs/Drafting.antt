-- The draft that a document makes, and what holds of it.
use Rattle.std.proofs.Common.{◌≡◌, ◌∙◌, ◌⊎◌, ℕ, ◌-◌, ◌^◌, ◌<◌, ◌≤◌, Bool, true, ◌||◌, ◌&&◌, List, [], ◌∷◌, Option, None, Some, Result, Ok, Err, refl, sym, ap, subst, arith, inl, inr}
use Rattle.std.specs.Option.{option_or}
use Rattle.std.proofs.lemmas.Bool.Decides.{eqb_tells, leb_tells, nat_tests}
use Rattle.serde_json.specs.Data.{Data}
use Rattle.lx_trees.specs.Trees.{Trees, nil, tree}
use Rattle.lx_trees.specs.NamedTrees.{total}
use Rattle.lx_node.specs.Strings.{capped}
use Rattle.lx_node.specs.Limits.{most_depth, most_nodes, most_characters, most_key}
use Rattle.lx_node.specs.declared.cause.Cause.{Cause}
use Rattle.lx_node.specs.declared.cause.Fault.{Fault}
use Rattle.lx_node.specs.declared.cause.Limit.{Limit}
use Rattle.lx_node.specs.declared.cause.Limit.TheVariants.{Depth, Nodes, Characters, KeyCount}
use Rattle.lx_select.specs.declared.selection.Selection.TheVariants.{Nothing}
use Rattle.lx_marks.specs.Marks.{unmarked, is_touched}
use Rattle.lx_forest.specs.Forest.{Forest}
use Rattle.lx_forest.specs.Lookups.{has, roots, preorder, IsForest}
use Rattle.lx_forest.specs.Edits.{drop_detached}
use Rattle.lx_forest.proofs.Walks.{is_among-preorder_of}
use Rattle.lx_draft.specs.Working.{Working, MayStart, started}
use Rattle.lx_draft.specs.Marking.{marked_in}
use Rattle.lx_draft.specs.Covering.{IsReady, AreCovered}
use Rattle.lx_draft.specs.Faults.{answer, over, TellsStep}
use Rattle.lx_draft.specs.Freezing.{tree_depth, tree_characters, limits_fault}
use Rattle.lx_draft.proofs.Covered.{IsTold, noted_up, covered, kinds_at, same_keys}
use Rattle.lx_draft.proofs.Depths.{whole_of, le-tree_depth}
use Rattle.lx_draft.proofs.Swept.{within_limits}
use Rattle.lx_draft.proofs.Touched.{touched-nodes}
use Rattle.lx_json.specs.declared.growing.Growth.{Growth}
use Rattle.lx_json.specs.Reading.{Piece, and_then}
use Rattle.lx_json.specs.Importing.{rooted, document_of, drafted, draft_of, imported, IsImported}
use Rattle.lx_json.specs.Growing.{IsGrowing, rooted_growth, rooted_by}
use Rattle.lx_json.proofs.Grown.{ok_is, keyed-low}
use Rattle.lx_json.proofs.Told.{tells_on}

-- ---- the draft

by_growth : (next : ℕ) (r : Result (Trees Piece) Cause) (g : Growth) → rooted_by next r ≡ Ok g
    → and_then r (draft_of next) ≡ answer (limits_fault g.links g.next) (drafted g.links g.next)
unfolding rooted_by rooted_growth
by_growth next (Ok trees) g e = ap (λ (g : Growth). answer (limits_fault g.links g.next) (drafted g.links g.next)) (ok_is (rooted_growth next trees) g e)
by_growth next (Err cause) g e = absurd (cc)

pub imported_by : (d : Data) (next : ℕ) (g : Growth) → rooted_by next (document_of d) ≡ Ok g
    → imported d next ≡ answer (limits_fault g.links g.next) (drafted g.links g.next)
unfolding imported
imported_by d next g e = by_growth next (document_of d) g e

pub import_refused : (d : Data) (next : ℕ) (e : Fault) → TellsStep e (document_of d) → TellsStep e (imported d next)
unfolding imported
import_refused d next e told = tells_on e (document_of d) (draft_of next) told

pub import_beyond : (d : Data) (next : ℕ) (g : Growth) (cause : Cause) → rooted_by next (document_of d) ≡ Ok g → limits_fault g.links g.next ≡ Some cause
    → imported d next ≡ Err cause
import_beyond d next g cause e beyond = imported_by d next g e ∙ ap (λ o. answer o (drafted g.links g.next)) beyond

pub import_within : (d : Data) (next : ℕ) (g : Growth) (w : Working) → rooted_by next (document_of d) ≡ Ok g → limits_fault g.links g.next ≡ None
    → w ≡ drafted g.links g.next → imported d next ≡ Ok w
import_within d next g w e within is = imported_by d next g e ∙ ap (λ o. answer o (drafted g.links g.next)) within ∙ ap (λ w. Ok w) (sym is)

-- ---- its tree

by_trees : (P : Growth → Type 0) (next : ℕ) (r : Result (Trees Piece) Cause) (g : Growth) → ((trees : Trees Piece) → P (rooted_growth next trees))
    → rooted_by next r ≡ Ok g → P g
unfolding rooted_by
by_trees P next (Ok trees) g each e = subst P (ok_is (rooted_growth next trees) g e) (each trees)
by_trees P next (Err cause) g each e = absurd (cc)

whole_rooted : (next : ℕ) (trees : Trees Piece) → drop_detached (rooted_growth next trees).links ≡ (rooted_growth next trees).links
unfolding drop_detached rooted_growth
whole_rooted next nil = refl
whole_rooted next (tree root below rest) = refl

pub whole_growth : (d : Data) (next : ℕ) (g : Growth) → rooted_by next (document_of d) ≡ Ok g → drop_detached g.links ≡ g.links
whole_growth d next g e = by_trees (λ g. drop_detached g.links ≡ g.links) next (document_of d) g (whole_rooted next) e

-- nothing is beside the root, and other keys are new
record IsRooted (next : ℕ) (g : Growth) : Type 0 where
  alone : IsForest g.links → roots g.links ≡ 0 ∷ []
  rises : next ≤ g.next
  fresh : (q : ℕ) → has q g.links ≡ true → (q ≡ 0) ⊎ (next ≤ q)

rooted_fresh : (next q : ℕ) (root : Piece) (below rest : Trees Piece) → has q (rooted next (tree root below rest)) ≡ true → (q ≡ 0) ⊎ (next ≤ q)
rooted_fresh next q root below rest there =
    elim (eqb_tells 0 q) [
      | inl top ↦ inl (sym top.1)
      | inr other ↦ inr (elim (leb_tells next q) [ inl up ↦ up.1 | inr low ↦ absurd (grind (arith, there, other.0, keyed-low next q below low.1)) ])
    ]

rooted_is : (next : ℕ) (trees : Trees Piece) → IsRooted next (rooted_growth next trees)
unfolding rooted_growth
rooted_is next nil = record { alone = λ order. absurd (let none = order.root in cc); rises = omega arith; fresh = λ q there. absurd (cc) }
rooted_is next (tree root below rest) = record { alone = λ order. refl; rises = omega arith; fresh = λ q there. rooted_fresh next q root below rest there }

is_rooted : (d : Data) (next : ℕ) (g : Growth) → rooted_by next (document_of d) ≡ Ok g → IsRooted next g
is_rooted d next g e = by_trees (IsRooted next) next (document_of d) g (rooted_is next) e

-- ---- an update may start from it

pub may_start : (g : Growth) → IsGrowing g → drop_detached g.links ≡ g.links → limits_fault g.links g.next ≡ None → MayStart g.links g.next
may_start g i whole none = within_limits g.links g.next i.order i.free whole none

-- ---- its marks

told_marks : (f : Forest) (ks : List ℕ) → IsForest f → IsTold f f f ks
told_marks f ks h = record {
  seen = λ q. inl (refl, refl);
  above = λ m up. noted_up f ks m h (λ q p was over. inl (up q p was over));
}

covered_marks : (w : Working) (ks : List ℕ) → IsReady w → AreCovered w (marked_in w.forest ks w)
covered_marks w ks r =
    covered w (marked_in w.forest ks w) w.forest ks r.in_order (told_marks w.forest ks r.in_order) (kinds_at w.forest w.forest refl)
    (kinds_at w.forest w.forest refl) refl refl (record {
      in_order = r.in_order;
      free = r.free;
    })
    (same_keys w (marked_in w.forest ks w) refl (λ q. refl))

both : (a b c d : Bool) → a ≡ (b || (c && d)) → c ≡ true → d ≡ true → a ≡ true
both a b c d e x y = grind (arith, e, x, y)

pub is_imported : (d : Data) (next : ℕ) (g : Growth) (w : Working) → rooted_by next (document_of d) ≡ Ok g → IsGrowing g → MayStart g.links g.next
    → w ≡ drafted g.links g.next → IsImported next w
is_imported d next g w e i start is =
    subst (IsImported next) (sym is) (record {
      order = i.order;
      alone = (is_rooted d next g e).alone i.order;
      start = start;
      selected = refl;
      rises = (is_rooted d next g e).rises;
      fresh_keys = (is_rooted d next g e).fresh;
      covered = covered_marks (started g.links Nothing g.next) (preorder g.links) (record { in_order = i.order; free = i.free });
      all_marked =
          λ q there. both _ (is_touched unmarked q) _ _ (touched-nodes g.links (preorder g.links) unmarked q)
          (is_among-preorder_of g.links q ∙ start.whole q there) there;
    })
