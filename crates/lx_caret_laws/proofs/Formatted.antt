-- Formatting leaves the same to be read, step by step.
use Rattle.lx_blocks.specs.Blocks.{is_at, passes}
use Rattle.lx_blocks.specs.Ranges.{end_of, normal_at, range_of, start_of}
use Rattle.lx_caret.proofs.Cleared.{fit_of, range_lies}
use Rattle.lx_caret.proofs.Fit.{Fit, Stays, after_tells, stays_self, stays_set, stays_then}
use Rattle.lx_caret.proofs.Lies.{text_at}
use Rattle.lx_caret.proofs.Splits.{stays_split}
use Rattle.lx_caret.specs.Formatting.{Isolated, and_before, edges, format_at, format_text_step, formatted, has_bit, isolate_step, isolated, isolated_key, pieces, selection_format, switch_step, switched, switched_all, switched_in}
use Rattle.lx_caret_laws.proofs.EditedIn.{apart_from, there_by}
use Rattle.lx_caret_laws.proofs.ReadLevels.{reads_alike}
use Rattle.lx_caret_laws.proofs.Spliced.{text_of_normal}
use Rattle.lx_caret_laws.proofs.SplitSaid.{split_read}
use Rattle.lx_caret_laws.specs.Carets.{IsSound}
use Rattle.lx_caret_laws.specs.Reading.{ReadsTheSame, read_in, said}
use Rattle.lx_draft.proofs.Covered.{answered}
use Rattle.lx_draft.specs.Faults.{after, over_limits}
use Rattle.lx_draft.specs.Selecting.{text_of}
use Rattle.lx_draft.specs.Steps.{fields_written, set_points, set_step}
use Rattle.lx_draft.specs.Working.{Working}
use Rattle.lx_edit.specs.InTurn.{in_turn}
use Rattle.lx_edit.specs.Texts.{split_step}
use Rattle.lx_edit_laws.proofs.WrapSteps.{was_same}
use Rattle.lx_forest.proofs.Lookups.{children_of-with_fields, fields_of-with_fields}
use Rattle.lx_forest.specs.Edits.{with_fields}
use Rattle.lx_forest.specs.Forest.{Forest}
use Rattle.lx_forest.specs.Lookups.{IsForest, fields_of, kind_of}
use Rattle.lx_links.specs.Faults.{set_fault}
use Rattle.lx_node.specs.Kinds.{is_element}
use Rattle.lx_node.specs.Strings.{characters_of}
use Rattle.lx_node.specs.declared.cause.Cause.{Cause}
use Rattle.lx_node.specs.declared.fields.Fields.TheVariants as fields
use Rattle.lx_node.specs.declared.fields.Fields.{Fields}
use Rattle.lx_node.specs.declared.fields.TextFields.{TextFields}
use Rattle.lx_node.specs.declared.kind.Kind.TheVariants as kinds
use Rattle.lx_node.specs.declared.kind.Kind.{Kind}
use Rattle.std.proofs.Common.{Bool, List, None, Ok, Option, Result, Some, [], ap, cond, false, inl, inr, not, option_map, refl, subst, sym, true, ℕ, ◌∙◌, ◌∷◌, ◌≡◌}
use Rattle.std.proofs.lemmas.Bool.Decides.{eqb_tells}
use Rattle.std.specs.Option.{option_or}
use Rattle.std.specs.Prelude.{is_some}

-- ---- drafts in which the same is read

-- a draft became another in which the same is read
pub record Unread (w v : Working) : Type 0 where
  pub stays : Stays w v
  pub same : ReadsTheSame w.forest v.forest

element_stays : (w v : Working) (b : ℕ) → Stays w v → is_at is_element w.forest b ≡ true → is_at is_element v.forest b ≡ true
element_stays w v b s e = by_kind (kind_of w.forest b) refl e where
  by_kind : (o : Option Kind) → kind_of w.forest b ≡ o → passes is_element o ≡ true → is_at is_element v.forest b ≡ true
  by_kind None is e = absurd (cc)
  by_kind (Some kind) is e = ap (passes is_element) (s.kept.each b kind is) ∙ e

unread_then : (u v w : Working) → Unread u v → Unread v w → Unread u w
unread_then u v w a b = record {
  stays = stays_then u v w a.stays b.stays;
  same = record { each = λ q e. b.same.each q (element_stays u v q a.stays e) ∙ a.same.each q e };
}

unread_self : (w : Working) → Fit w → Unread w w
unread_self w fit = record { stays = stays_self w fit; same = record { each = λ q e. refl } }

unread_ok : (w v : Working) → Fit w → ◌≡◌ {A = Result Working Cause} (Ok w) (Ok v) → Unread w v
unread_ok w v fit e = subst (Unread w) (was_same w v e) (unread_self w fit)

-- ---- a piece by itself

pub isolate_unread : (p : _) (w v : Working) → Fit w → isolate_step p w ≡ Ok v → Unread w v
unfolding isolate_step
isolate_unread p w v fit e = by_text (normal_at w.forest p.key) refl e where
  by_text : (o : Option TextFields) → normal_at w.forest p.key ≡ o → cond (is_some o) (split_step p.key (edges w.forest p) w) (Ok w) ≡ Ok v
      → Unread w v
  by_text None is e = unread_ok w v fit e
  by_text (Some t) is e =
      let here = text_of_normal w.forest p.key t is in
      let text : kind_of w.forest p.key ≡ Some kinds.Text = (text_at w.forest p.key t here).kind_is in
      record {
        stays = stays_split p.key (edges w.forest p) w v fit e;
        same = record {
          each = λ b element. split_read p.key (edges w.forest p) t w v fit.ready fit.held fit.short here e b
              (apart_from w.forest p.key b text element) (there_by w.forest b element);
        };
      }

isolated_unread : (ps : List _) (w : Working) (made : Isolated) → Fit w → isolated ps w ≡ Ok made → Unread w made.draft
unfolding isolated
isolated_unread [] w made fit e = let is : w ≡ made.draft = cc in subst (Unread w) is (unread_self w fit)
isolated_unread (p ∷ ps) w made fit e =
    let first = after_tells (isolate_step p w) (λ v. after (isolated ps v) (and_before (isolated_key p w))) made e in
    let second = after_tells (isolated ps first.0) (and_before (isolated_key p w)) made first.1.1 in
    let last : ◌≡◌ {A = Result Isolated Cause} (and_before (isolated_key p w) second.0) (Ok made) = second.1.1 in
    let is : second.0.draft ≡ made.draft = cc in
    let one = isolate_unread p w first.0 fit first.1.0 in
    subst (Unread w) is (unread_then w first.0 second.0.draft one (isolated_unread ps first.0 second.0 one.stays.fit second.1.0))

-- ---- a format set

-- a text that gets another format says the same
said_still : (f : Forest) (k : ℕ) (t u : TextFields) → fields_of f k ≡ Some (fields.Text t) → u.text ≡ t.text → (q : ℕ)
    → said (with_fields k (fields.Text u) f) q ≡ said f q
said_still f k t u is same q =
    ap text_of (fields_of-with_fields k (fields.Text u) f q) ∙ elim (eqb_tells q k) [
      | inl own ↦
          let here : fields_of f q ≡ Some (fields.Text t) = ap (fields_of f) own.1 ∙ is in
          rw (own.0, here) same
      | inr other ↦ rw other.0 (by_fields (fields_of f q))
    ] where
      by_fields : (o : Option Fields) → text_of (option_map (λ old. cond false (fields.Text u) old) o) ≡ text_of o
      by_fields None = refl
      by_fields (Some x) = refl

set_unread : (k : ℕ) (t u : TextFields) (w v : Working) → Fit w → fields_of w.forest k ≡ Some (fields.Text t) → u.text ≡ t.text
    → set_step k (fields.Text u) w ≡ Ok v → Unread w v
unfolding set_step
set_unread k t u w v fit is same e =
    let x : Fields = fields.Text u in
    let told = answered (option_or (set_fault k x w.forest) (over_limits (characters_of x) w))
    (fields_written k x (characters_of x) (set_points k x) w) v e in
    let stays = stays_set k u w v fit e in
    let forest : with_fields k x w.forest ≡ v.forest = ap (λ u. u.forest) told.1 in
    let g : Forest = with_fields k x w.forest in
    record {
      stays = stays;
      same = record {
        each = λ b element. ap (λ g. read_in g b) (sym forest)
            ∙ reads_alike w.forest g fit.ready.in_order (subst IsForest (sym forest) stays.fit.ready.in_order) (said_still w.forest k t u is same)
            (children_of-with_fields k x w.forest) b;
      };
    }

pub switch_unread : (on : Bool) (bit k : ℕ) (w v : Working) → Fit w → switch_step on bit k w ≡ Ok v → Unread w v
unfolding switch_step
switch_unread on bit k w v fit e = by_fields (fields_of w.forest k) refl e where
  by_fields : (o : Option Fields) → fields_of w.forest k ≡ o → switched_in on bit o k w ≡ Ok v → Unread w v
  by_fields (Some (fields.Text t)) is e = set_unread k t (record t { format = switched on bit t.format }) w v fit is refl e
  by_fields o is e = unread_ok w v fit e

each_unread : (on : Bool) (bit : ℕ) (ks : List ℕ) (w v : Working) → Fit w → in_turn (switch_step on bit) ks w ≡ Ok v → Unread w v
unfolding in_turn
each_unread on bit [] w v fit e = unread_ok w v fit e
each_unread on bit (k ∷ ks) w v fit e =
    let first = after_tells (switch_step on bit k w) (in_turn (switch_step on bit) ks) v e in
    let one = switch_unread on bit k w first.0 fit first.1.0 in
    unread_then w first.0 v one (each_unread on bit ks first.0 v one.stays.fit first.1.1)

-- ---- the command

-- the selection's format is read nowhere
last_format : (w u v : Working) (format : ℕ) → ReadsTheSame w.forest u.forest → ◌≡◌ {A = Result Working Cause} (Ok (selection_format format u)) (Ok v)
    → ReadsTheSame w.forest v.forest
last_format w u v format same e = subst (λ x. ReadsTheSame w.forest x.forest) (was_same (selection_format format u) v e) same

switched_unread : (bit : ℕ) (ks : List ℕ) (w u v : Working) → Fit u → ReadsTheSame w.forest u.forest → (same : Unread w u)
    → switched_all bit ks u ≡ Ok v
    → ReadsTheSame w.forest v.forest
switched_unread bit [] w u v fit so same e = subst (λ x. ReadsTheSame w.forest x.forest) (was_same u v e) so
switched_unread bit (k ∷ ks) w u v fit so same e =
    let on : Bool = not (has_bit bit (format_at u.forest k)) in
    let first = after_tells (in_turn (switch_step on bit) (k ∷ ks) u) (λ x. Ok (selection_format (format_at x.forest k) x)) v e in
    let both = unread_then w u first.0 same (each_unread on bit (k ∷ ks) u first.0 fit first.1.0) in
    last_format w first.0 v (format_at first.0.forest k) both.same first.1.1

formatted_unread : (bit : ℕ) (ps : List _) (format : ℕ) (w v : Working) → Fit w → formatted bit ps format w ≡ Ok v → ReadsTheSame w.forest v.forest
formatted_unread bit [] format w v fit e =
    last_format w w v (switched (not (has_bit bit format)) bit format) (unread_self w fit).same e
formatted_unread bit (p ∷ ps) format w v fit e =
    let first = after_tells (isolated (p ∷ ps) w) (λ made. switched_all bit made.texts made.draft) v e in
    let apart = isolated_unread (p ∷ ps) w first.0 fit first.1.0 in
    switched_unread bit first.0.texts w first.0.draft v apart.stays.fit apart.same apart first.1.1

pub format_unread : (bit : ℕ) (w v : Working) → IsSound w → format_text_step bit w ≡ Ok v → ReadsTheSame w.forest v.forest
unfolding format_text_step
format_unread bit w v sound e =
    let first = after_tells (range_of w) (λ r. formatted bit (pieces w.forest (start_of w.forest r) (end_of w.forest r)) r.format w) v e in
    let is = range_lies w first.0 first.1.0 in
    formatted_unread bit (pieces w.forest (start_of w.forest first.0) (end_of w.forest first.0)) first.0.format w v
    (fit_of w first.0 sound.ready sound.held sound.short is) first.1.1
