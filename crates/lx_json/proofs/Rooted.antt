-- The root's tree: the root first, and then what is below it.
use Rattle.std.proofs.Common.{◌≡◌, ◌≢◌, ◌∙◌, ◌+◌, ◌<◌, ℕ, true, false, is_some, codes, List, [], None, Result, Ok, Err, refl, ap, sym, subst, arith}
use Rattle.std.proofs.lemmas.Bool.Decides.{eqb_tells}
use Rattle.serde_json.specs.Data.{Data, object}
use Rattle.serde_json.specs.Find.{get, as_object}
use Rattle.lx_trees.specs.Trees.{Trees, nil, tree}
use Rattle.lx_trees.specs.NamedTrees.{total}
use Rattle.lx_node.specs.declared.kind.Kind.TheVariants.{Root}
use Rattle.lx_node.specs.declared.fields.Fields.{Fields}
use Rattle.lx_node.specs.declared.cause.Cause.{Cause}
use Rattle.lx_node.specs.declared.cause.Cause.TheVariants.{BadState, EmptyState}
use Rattle.lx_node.specs.declared.cause.Fault.{Fault}
use Rattle.lx_forest.specs.Forest.{Forest, root_alone}
use Rattle.lx_forest.specs.Lookups.{has, IsForest}
use Rattle.lx_forest.specs.Edits.{with_fields, last_below}
use Rattle.lx_draft.specs.Faults.{TellsStep}
use Rattle.lx_json.specs.declared.growing.Growth.{Growth}
use Rattle.lx_json.specs.Reading.{Piece, and_then, told_under, with_tree, tree_of, piece_of}
use Rattle.lx_json.specs.Importing.{label_for, keyed, if_filled, root_in, document_of}
use Rattle.lx_json.specs.Growing.{IsGrowing, grown, grown_by, rooted_growth, rooted_by, children_told}
use Rattle.lx_json.proofs.Looked.{with_children, tree_of-object}
use Rattle.lx_json.proofs.Grown.{growth_is, ok_is}
use Rattle.lx_json.proofs.Told.{tells_same, tells_on}

-- ---- the root alone

abbrev pub root_piece : Fields → Piece
root_piece fields = record { kind = Root; fields = fields }

root_order : (fields : Fields) → IsForest (tree (label_for 0 (root_piece fields)) nil nil)
root_order fields = record { once = λ q. grind (arith, eqb_tells 0 q); rising = refl; root = refl }

pub root_made : (fields : Fields) (next : ℕ) (f : Forest) → f ≡ with_fields 0 fields root_alone → 0 < next
    → (record { links = f; next = next } ≡ rooted_growth next (tree (root_piece fields) nil nil)) × IsGrowing (record { links = f; next = next })
unfolding with_fields rooted_growth
root_made fields next f is low = (
  growth_is f _ next (next + 0) is (omega arith),
  record {
    order = subst IsForest (sym is) (root_order fields);
    few = omega (arith, ap total is, low);
    free = λ q above. ap (has q) is ∙ grind (arith, above, low, eqb_tells 0 q);
  },
)

pub rooted_next : (next : ℕ) (piece : Piece) (g : Growth) → g ≡ rooted_growth next (tree piece nil nil) → g.next ≡ next
unfolding rooted_growth
rooted_next next piece g is = omega (arith, ap (λ (g : Growth). g.next) is)

-- ---- with what is below it

filled : (next : ℕ) (piece : Piece) (r : Result (Trees Piece) Cause) (made h : Growth) → made ≡ rooted_growth next (tree piece nil nil)
    → grown_by 0 r made ≡ Ok h → h.next ≢ next → rooted_by next (and_then (with_tree piece r) if_filled) ≡ Ok h
unfolding grown_by grown rooted_by rooted_growth
filled next piece (Ok nil) made h is e more =
    absurd (more (omega (arith, ap (λ (g : Growth). g.next) (ok_is (grown 0 nil made) h e), ap (λ (g : Growth). g.next) is)))
filled next piece (Ok (tree other below rest)) made h is e more =
    ap (λ h. Ok h)
    (growth_is _ _ _ _ (ap (λ n. last_below 0 (keyed n (tree other below rest)) (tree (label_for 0 piece) nil nil)) (sym (plain next)))
    (behind next (total (tree other below rest))) ∙ sym (ap (grown 0 (tree other below rest)) is) ∙ ok_is _ h e)
  where
    plain : (n : ℕ) → n + 0 ≡ n
    plain n = omega arith

    behind : (n m : ℕ) → n + m ≡ n + 0 + m
    behind n m = omega arith
filled next piece (Err cause) made h is e more = absurd (cc)

empty : (next : ℕ) (piece : Piece) (r : Result (Trees Piece) Cause) (made h : Growth) → made ≡ rooted_growth next (tree piece nil nil)
    → grown_by 0 r made ≡ Ok h → h.next ≡ next → and_then (with_tree piece r) if_filled ≡ Err EmptyState
unfolding grown_by grown rooted_growth
empty next piece (Ok nil) made h is e none = refl
empty next piece (Ok (tree other below rest)) made h is e none =
    absurd (omega (arith, ap (λ (g : Growth). g.next) (ok_is (grown 0 (tree other below rest) made) h e), ap (λ (g : Growth). g.next) is, none))
empty next piece (Err cause) made h is e none = absurd (cc)

-- the root's tree is its piece, with what the object says of the children
pub root_told : {piece : Piece} (d : Data) → is_some (as_object d) ≡ true → piece_of None d ≡ Ok piece → piece.kind ≡ Root
    → tree_of d None ≡ with_children d (root_piece piece.fields)
root_told {piece} d is of top =
    tree_of-object d None is ∙ ap (λ r. and_then r (with_children d)) (of ∙ ap (λ k. Ok (record { kind = k; fields = piece.fields })) top)

pub root_grown : {key : ℕ} {made h : Growth} (next : ℕ) (d : Data) (fields : Fields) → tree_of d None ≡ with_children d (root_piece fields)
    → made ≡ rooted_growth next (tree (root_piece fields) nil nil)
    → key ≡ 0 → grown_by key (children_told Root d) made ≡ Ok h → h.next ≢ next → rooted_by next (and_then (tree_of d None) if_filled) ≡ Ok h
root_grown {made = made} {h = h} next d fields told alone root e more =
    ap (λ r. rooted_by next (and_then r if_filled)) told
    ∙ filled next (root_piece fields) (children_told Root d) made h alone (ap (λ k. grown_by k (children_told Root d) made) (sym root) ∙ e) more

pub root_empty : {key : ℕ} {made h : Growth} (next : ℕ) (d : Data) (fields : Fields) → tree_of d None ≡ with_children d (root_piece fields)
    → made ≡ rooted_growth next (tree (root_piece fields) nil nil)
    → key ≡ 0 → grown_by key (children_told Root d) made ≡ Ok h → h.next ≡ next → and_then (tree_of d None) if_filled ≡ Err EmptyState
root_empty {made = made} {h = h} next d fields told alone root e none =
    ap (λ r. and_then r if_filled) told
    ∙ empty next (root_piece fields) (children_told Root d) made h alone (ap (λ k. grown_by k (children_told Root d) made) (sym root) ∙ e) none

pub root_refused : (d : Data) (e : Fault) → is_some (as_object d) ≡ true → TellsStep e (piece_of None d) → TellsStep e (and_then (tree_of d None) if_filled)
root_refused d e is told =
    tells_on e (tree_of d None) if_filled (tells_same e _ _ (tree_of-object d None is) (tells_on e (piece_of None d) (with_children d) told))

pub below_refused : (d : Data) (fields : Fields) (e : Fault) → tree_of d None ≡ with_children d (root_piece fields) → TellsStep e (children_told Root d)
    → TellsStep e (and_then (tree_of d None) if_filled)
below_refused d fields e told refused =
    tells_on e (tree_of d None) if_filled (tells_same e _ _ told (tells_on e (children_told Root d) _ refused))

-- ---- the document

pub document_of-object : (d : Data) → is_some (as_object d) ≡ true → document_of d ≡ root_in (get (codes "root") d)
unfolding document_of
document_of-object (object ms) is = refl
document_of-object _ is = absurd (grind (arith, is))

pub document_of-other : (d : Data) → is_some (as_object d) ≡ false → document_of d ≡ Err (BadState [])
unfolding document_of
document_of-other (object ms) is = absurd (grind (arith, is))
document_of-other _ is = refl

pub rooted_up : (place : List ℕ) (next : ℕ) (r : Result (Trees Piece) Cause) (h : Growth) → rooted_by next r ≡ Ok h → rooted_by next (told_under place r) ≡ Ok h
unfolding rooted_by
rooted_up place next (Ok trees) h e = e
rooted_up place next (Err cause) h e = absurd (cc)
