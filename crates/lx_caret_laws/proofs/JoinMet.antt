-- What one meets where one deletes at an edge of a block: nothing, a table, or a line that is joined.
use Rattle.lx_blocks.specs.Blocks.{block_of, is_at, leading_in, passes}
use Rattle.lx_blocks.specs.Places.{before_holder}
use Rattle.lx_blocks.specs.Ranges.{is_collapsed, range_of}
use Rattle.lx_blocks.specs.declared.ranges.Ranged.{Ranged}
use Rattle.lx_caret.proofs.Fit.{after_tells}
use Rattle.lx_caret.specs.Deleting.{Reach, back_to, cluster_reach, delete_character_step, delete_step, delete_word_step, deleted_in, erase_step, inline_end, join_back_step, join_step, joined_with, leaf_beside, leaf_or_line, line_joined, met, on_to, stop_before, stop_behind, word_reach}
use Rattle.lx_caret.specs.Removing.{removed_in}
use Rattle.lx_caret_laws.proofs.AtCaret.{IsTaken, collapsed, ranged, taken}
use Rattle.lx_caret_laws.specs.Joining.{Deletes, IsAtEdge}
use Rattle.lx_draft.specs.Working.{Working}
use Rattle.lx_edit.specs.Edits.{remove_step}
use Rattle.lx_edit_laws.proofs.WrapSteps.{was_same}
use Rattle.lx_forest.specs.Forest.{Forest}
use Rattle.lx_forest.specs.Lookups.{is_within, kind_of}
use Rattle.lx_node.specs.Kinds.{is_inline, is_text_block}
use Rattle.lx_node.specs.declared.cause.Cause.{Cause}
use Rattle.lx_node.specs.declared.cause.Point.{Point}
use Rattle.lx_node.specs.declared.kind.Kind.TheVariants as kinds
use Rattle.lx_node.specs.declared.kind.Kind.{Kind}
use Rattle.lx_trees.specs.Siblings.{is_among}
use Rattle.std.proofs.Common.{Bool, List, None, Ok, Option, Result, Some, [], ap, arith, cond, false, inl, inr, length, refl, sym, true, ℕ, ◌+◌, ◌∙◌, ◌∷◌, ◌≡◌}
use Rattle.std.proofs.lemmas.Bool.Decides.{eqb_tells}

-- ---- what is left to do at an edge

-- the block is joined
pub record IsJoin (back : Bool) (block : ℕ) (p : Point) (format : ℕ) (w v : Working) : Type 0 where
  pub took : IsTaken p p format w
  pub joins : join_step back block w ≡ Ok v

edge_joins : (back : Bool) (reach : Reach) (block : ℕ) (p : Point) (format : ℕ) (w v : Working) → IsAtEdge back block p format w
    → delete_step back reach w ≡ Ok v → IsJoin back block p format w v
unfolding delete_step
edge_joins back reach block p format w v is e =
    let r : Ranged = ranged p p format in
    let first = after_tells (range_of w) (λ r. cond (is_collapsed r) (deleted_in back reach r.anchor (block_of w.forest r.anchor.key) w)
    (removed_in r w)) v e in
    let took = taken p p format w first.0 is.caret first.1.0 in
    let same : first.0 ≡ r =
    let both_are : ◌≡◌ {A = Result Ranged Cause} (Ok first.0) (Ok r) = sym first.1.0 ∙ took.is in cc in
    let here : cond (is_collapsed r) (deleted_in back reach p (block_of w.forest p.key) w) (removed_in r w) ≡ Ok v =
    ap (λ r. cond (is_collapsed r) (deleted_in back reach r.anchor (block_of w.forest r.anchor.key) w) (removed_in r w)) (sym same) ∙ first.1.1 in
    let deleted : deleted_in back reach p (block_of w.forest p.key) w ≡ Ok v =
    sym (ap (λ b. cond b (deleted_in back reach p (block_of w.forest p.key) w) (removed_in r w)) (collapsed p format)) ∙ here in
    let inside : deleted_in back reach p (Some block) w ≡ Ok v = sym (ap (λ o. deleted_in back reach p o w) is.within) ∙ deleted in
    let beside : leaf_or_line back reach block (leaf_beside back w.forest block p) w ≡ Ok v =
    sym (ap (λ b. cond b (erase_step back reach p.key p.offset w) (leaf_or_line back reach block (leaf_beside back w.forest block p) w))
    is.characters) ∙ inside in
    record { took = took; joins = sym (ap (λ o. leaf_or_line back reach block o w) is.leaf) ∙ beside }

pub deletes_joins : (back : Bool) (block : ℕ) (p : Point) (format : ℕ) (w v : Working) → IsAtEdge back block p format w → Deletes back w v
    → IsJoin back block p format w v
unfolding delete_character_step delete_word_step
deletes_joins back block p format w v is (inl e) = edge_joins back (cluster_reach back) block p format w v is e
deletes_joins back block p format w v is (inr e) = edge_joins back (word_reach back) block p format w v is e

-- ---- where nothing is joined

same_back : (v w : Working) → ◌≡◌ {A = Result Working Cause} (Ok w) (Ok v) → v ≡ w
same_back v w e = sym (was_same w v e)

pub none_before : (block : ℕ) (w v : Working) → stop_before w.forest block ≡ None → join_step true block w ≡ Ok v → v ≡ w
unfolding join_step join_back_step
none_before block w v none e = same_back v w (sym (ap (λ o. back_to o block w) none) ∙ e)

pub none_behind : (block : ℕ) (w v : Working) → stop_behind w.forest block ≡ None → join_step false block w ≡ Ok v → v ≡ w
unfolding join_step
none_behind block w v none e = same_back v w (sym (ap (λ o. on_to o w) none) ∙ e)

pub table_before : (block table : ℕ) (w v : Working) → stop_before w.forest block ≡ Some table → kind_of w.forest table ≡ Some kinds.Table
    → join_step true block w ≡ Ok v → v ≡ w
unfolding join_step join_back_step
table_before block table w v found kind e =
    same_back v w (sym (ap (λ o. back_to o block w) found ∙ ap (λ o. joined_with o table block w) kind) ∙ e)

pub table_behind : (block table : ℕ) (w v : Working) → stop_behind w.forest block ≡ Some table → kind_of w.forest table ≡ Some kinds.Table
    → join_step false block w ≡ Ok v → v ≡ w
unfolding join_step
table_behind block table w v found kind e =
    same_back v w (sym (ap (λ o. on_to o w) found ∙ ap (λ o. met o table w) kind) ∙ e)

-- ---- where a rule goes

pub rule_before : (block rule : ℕ) (w v : Working) → stop_before w.forest block ≡ Some rule → kind_of w.forest rule ≡ Some kinds.Rule
    → join_step true block w ≡ Ok v → remove_step rule w ≡ Ok v
unfolding join_step join_back_step
rule_before block rule w v found kind e = sym (ap (λ o. back_to o block w) found ∙ ap (λ o. joined_with o rule block w) kind) ∙ e

pub rule_behind : (block rule : ℕ) (w v : Working) → stop_behind w.forest block ≡ Some rule → kind_of w.forest rule ≡ Some kinds.Rule
    → join_step false block w ≡ Ok v → remove_step rule w ≡ Ok v
unfolding join_step
rule_behind block rule w v found kind e = sym (ap (λ o. on_to o w) found ∙ ap (λ o. met o rule w) kind) ∙ e

-- ---- a line is joined

with_line : (o : Option Kind) (found block : ℕ) (w : Working) → passes is_text_block o ≡ true → joined_with o found block w ≡ line_joined found block w
unfolding is_text_block
with_line None found block w e = absurd (cc)
with_line (Some kinds.Paragraph) found block w e = refl
with_line (Some (kinds.Heading level)) found block w e = refl
with_line (Some kinds.Quote) found block w e = refl
with_line (Some kinds.Item) found block w e = refl
with_line (Some kind) found block w e = absurd (cc)

met_line : (o : Option Kind) (found : ℕ) (w : Working) → passes is_text_block o ≡ true → met o found w ≡ join_back_step found w
unfolding is_text_block
met_line None found w e = absurd (cc)
met_line (Some kinds.Paragraph) found w e = refl
met_line (Some (kinds.Heading level)) found w e = refl
met_line (Some kinds.Quote) found w e = refl
met_line (Some kinds.Item) found w e = refl
met_line (Some kind) found w e = absurd (cc)

pub joined_back : (first second : ℕ) (w v : Working) → stop_before w.forest second ≡ Some first → is_at is_text_block w.forest first ≡ true
    → join_back_step second w ≡ Ok v → line_joined first second w ≡ Ok v
unfolding join_back_step
joined_back first second w v found block e =
    sym (ap (λ o. back_to o second w) found ∙ with_line (kind_of w.forest first) first second w block) ∙ e

pub joined_on : (first second : ℕ) (w v : Working) → stop_behind w.forest first ≡ Some second → is_at is_text_block w.forest second ≡ true
    → join_step false first w ≡ Ok v → join_back_step second w ≡ Ok v
unfolding join_step
joined_on first second w v found block e =
    sym (ap (λ o. on_to o w) found ∙ met_line (kind_of w.forest second) second w block) ∙ e

-- ---- all children of both lines are inline

pub none_hold : (f : Forest) (k : ℕ) (cs : List ℕ) → ((c : ℕ) → is_among c cs ≡ true → is_within f c k ≡ false) → before_holder f k cs ≡ cs
none_hold f k [] out = refl
none_hold f k (c ∷ cs) out =
    ap (λ t. cond t [] (c ∷ before_holder f k cs)) (out c (grind (arith, eqb_tells c c)))
    ∙ ap (λ t. c ∷ t) (none_hold f k cs (λ x among. out x (grind (arith, among))))

pub inline_all : (f : Forest) (here : ℕ) (cs : List ℕ) → ((c : ℕ) → is_among c cs ≡ true → is_at is_inline f c ≡ true)
    → inline_end f here here cs ≡ here + length cs
inline_all f here [] each = omega arith
inline_all f here (c ∷ cs) each =
    ap (λ t. inline_end f (cond t (here + 1) here) (here + 1) cs) (each c (grind (arith, eqb_tells c c)))
    ∙ inline_all f (here + 1) cs (λ x among. each x (grind (arith, among))) ∙ omega arith

pub leads_all : (f : Forest) (cs : List ℕ) → ((c : ℕ) → is_among c cs ≡ true → is_at is_inline f c ≡ true) → leading_in f cs ≡ cs
leads_all f [] each = refl
leads_all f (c ∷ cs) each =
    ap (λ t. cond t (c ∷ leading_in f cs) []) (each c (grind (arith, eqb_tells c c)))
    ∙ ap (λ t. c ∷ t) (leads_all f cs (λ x among. each x (grind (arith, among))))
