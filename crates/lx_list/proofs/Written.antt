-- Fields that are written leave every point of a range in the tree.
use Rattle.std.proofs.Common.{◌+◌, ◌≡◌, ◌∙◌, ℕ, Bool, true, false, cond, eqb, leb, ◌&&◌, length, Option, None, Some, refl, sym, ap, ap₂, subst, arith}
use Rattle.std.specs.Prelude.{option_map}
use Rattle.std.specs.Option.{option_or}
use Rattle.std.proofs.lemmas.Bool.Decides.{eqb_tells}
use Rattle.std.proofs.lemmas.Iterator.Adapters.{option_map_id}
use Rattle.lx_trees.specs.Spots.{Spot}
use Rattle.lx_node.specs.Kinds.{may_hold, has_characters, is_possible}
use Rattle.lx_node.specs.OfKind.{is_of_kind, fits_kind, is_text_of}
use Rattle.lx_node.specs.Strings.{characters_of}
use Rattle.lx_node.specs.declared.kind.Kind.{Kind}
use Rattle.lx_node.specs.declared.kind.Kind.TheVariants as kinds
use Rattle.lx_node.specs.declared.fields.Fields.{Fields}
use Rattle.lx_node.specs.declared.fields.Fields.TheVariants as fields
use Rattle.lx_node.specs.declared.fields.ElementFields.{ElementFields}
use Rattle.lx_node.specs.declared.cause.Cause.TheVariants.{WrongKind}
use Rattle.lx_node.specs.declared.cause.PointKind.{PointKind}
use Rattle.lx_node.specs.declared.cause.PointKind.TheVariants as point
use Rattle.lx_select.specs.declared.selection.Selection.{Selection}
use Rattle.lx_forest.specs.Forest.{Forest, Label}
use Rattle.lx_forest.specs.Lookups.{spot, label_of, kind_of, fields_of, is_attached}
use Rattle.lx_forest.specs.Edits.{with_fields}
use Rattle.lx_forest.proofs.Edits.{is_some-spot}
use Rattle.lx_forest.proofs.Held.{IsHeld-with_fields}
use Rattle.lx_forest.proofs.Lookups.{kind_of-with_fields, fields_of-with_fields, children_of-with_fields}
use Rattle.lx_forest.proofs.Within.{is_within-with_fields}
use Rattle.lx_links.specs.Faults.{unknown, wrong_fields, set_fault}
use Rattle.lx_draft.specs.Working.{Working}
use Rattle.lx_draft.specs.Selecting.{lies_in, is_counted_in}
use Rattle.lx_draft.specs.Faults.{answer, over_limits}
use Rattle.lx_draft.specs.Steps.{fields_written, set_points, set_step}
use Rattle.lx_draft.proofs.Covered.{answered}
use Rattle.lx_draft.proofs.CoveredSteps.{covered-set}
use Rattle.lx_draft.proofs.Put.{both_none}
use Rattle.lx_blocks.specs.Ranges.{lies}
use Rattle.lx_caret.specs.Lying.{EachPoint}
use Rattle.lx_caret.proofs.Lies.{both, is_place_in, spot_point}
use Rattle.lx_caret.proofs.Fit.{each_still, Stays, Staying, stays_ok, stays_self, stays_set}
use Rattle.lx_draft.proofs.Short.{fields-short}
use Rattle.lx_caret.proofs.Short.{written-short}
use Rattle.lx_list.specs.Making.{element_fields_changed, set_changed, change_step}

-- ---- points

fields_still : (k : ℕ) (x : Fields) (f : Forest) (q : ℕ) → eqb q k ≡ false → fields_of (with_fields k x f) q ≡ fields_of f q
fields_still k x f q other =
    fields_of-with_fields k x f q ∙ ap (λ b. option_map (λ old. cond b x old) (fields_of f q)) other ∙ option_map_id (fields_of f q)

-- a point in the forest is in it after fields were written where no point counts characters
lies_written : (f : Forest) (k : ℕ) (now : Kind) (x : Fields) (q o : ℕ) (kind : PointKind) → kind_of f k ≡ Some now → has_characters now ≡ false
    → lies_in f (spot_point q o kind) ≡ true → lies_in (with_fields k x f) (spot_point q o kind) ≡ true
lies_written f k now x q o point.Element is bare e =
    ap₂ (λ kind n. is_counted_in point.Element kind && leb o n) (kind_of-with_fields k x f q) (ap length (children_of-with_fields k x f q)) ∙ e
lies_written f k now x q o point.Text is bare e = by_key (eqb q k) refl where
  by_key : (same : Bool) → eqb q k ≡ same → lies_in (with_fields k x f) (spot_point q o point.Text) ≡ true
  by_key false other =
      ap₂ (λ kind y. is_counted_in point.Text kind && is_place_in o y) (kind_of-with_fields k x f q) (fields_still k x f q other) ∙ e
  by_key true own =
      let same : q ≡ k = grind (arith, own, eqb_tells q k) in
      let counted : is_counted_in point.Text (kind_of f q) ≡ true = (both _ _ e).0 in
      let bad : false ≡ true = sym bare ∙ sym (ap (is_counted_in point.Text) (ap (kind_of f) same ∙ is)) ∙ counted in
      absurd (cc)

-- ---- kinds

pub known : (f : Forest) (k : ℕ) → unknown f k ≡ None → (l : Label) × (label_of f k ≡ Some l)
known f k none = by_spot (spot f k) refl where
  by_spot : (o : Option (Spot Label)) → spot f k ≡ o → (l : Label) × (option_map (λ s. s.label) (spot f k) ≡ Some l)
  by_spot None is = absurd (grind (arith, none, is, is_some-spot f k))
  by_spot (Some s) is = (s.label, ap (option_map (λ s. s.label)) is)

right_kind : (kind : Kind) (x : Fields) (o : Option Kind) → o ≡ Some kind → wrong_fields o x ≡ None → is_of_kind kind x ≡ true
right_kind kind x None is none = absurd (cc)
right_kind kind x (Some found) is none = let same : found ≡ kind = cc in subst (λ n. is_of_kind n x ≡ true) same (by_test (is_of_kind found x) none) where
  by_test : (b : Bool) → cond b None (Some (WrongKind found)) ≡ None → b ≡ true
  by_test true e = refl
  by_test false e = absurd (cc)

-- what a point counts characters in has the fields of a text
abbrev IsBare : Fields → Type 0
IsBare x = (kind : Kind) → is_of_kind kind x ≡ true → has_characters kind ≡ false

element_bare : (e : ElementFields) → IsBare (fields.Element e)
unfolding is_of_kind fits_kind is_text_of has_characters
element_bare e kinds.Text so = let bad : false ≡ true = (both (is_possible kinds.Text) false so).1 in absurd (cc)
element_bare e kinds.Tab so = let bad : false ≡ true = (both (is_possible kinds.Tab) false so).1 in absurd (cc)
element_bare e kind so = refl

embed_bare : (source : _) → IsBare (fields.Embed source)
unfolding is_of_kind fits_kind is_text_of has_characters
embed_bare source kinds.Text so = let bad : false ≡ true = (both (is_possible kinds.Text) false so).1 in absurd (cc)
embed_bare source kinds.Tab so = let bad : false ≡ true = (both (is_possible kinds.Tab) false so).1 in absurd (cc)
embed_bare source kind so = refl

none_bare : IsBare fields.Bare
unfolding is_of_kind fits_kind is_text_of has_characters
none_bare kinds.Text so = let bad : false ≡ true = (both (is_possible kinds.Text) false so).1 in absurd (cc)
none_bare kinds.Tab so = let bad : false ≡ true = (both (is_possible kinds.Tab) false so).1 in absurd (cc)
none_bare kind so = refl

-- ---- set

stays_written : (k : ℕ) (x : Fields) → IsBare x → ((s : Selection) → set_points k x s ≡ s) → Staying (set_step k x)
unfolding set_step
stays_written k x bare still w v fit e =
    let after_it : Working = fields_written k x (characters_of x) (set_points k x) w in
    let told = answered (option_or (set_fault k x w.forest) (over_limits (characters_of x) w)) after_it v e in
    let all = covered-set k x w after_it fit.ready (ap (λ o. answer o after_it) told.0) in
    let first =
    both_none (unknown w.forest k) (wrong_fields (kind_of w.forest k) x) (both_none (set_fault k x w.forest) (over_limits (characters_of x) w) told.0).0 in
    let there = known w.forest k first.0 in
    let kind_is : kind_of w.forest k ≡ Some there.0.kind = ap (option_map (λ l. l.kind)) there.1 in
    let right : is_of_kind there.0.kind x ≡ true = right_kind there.0.kind x (kind_of w.forest k) kind_is first.1 in
    subst (Stays w) told.1 (record {
      fit = record {
        ready = all.ready;
        held = IsHeld-with_fields may_hold w.forest fit.ready.in_order fit.held k x;
        short = written-short k x (characters_of x) (set_points k x) w (fields-short (w.written + characters_of x) x (omega arith)) fit.short;
        lying = subst (λ s. EachPoint (λ p. lies (with_fields k x w.forest) p ≡ true) s) (sym (still w.selection))
            (each_still (λ p. lies w.forest p ≡ true) (λ p. lies (with_fields k x w.forest) p ≡ true) w.selection (λ p so.
            let parts = both (is_attached w.forest p.key) (lies_in w.forest p) so in
            ap₂ ◌&&◌ (is_within-with_fields k x w.forest 0 p.key ∙ parts.0)
            (lies_written w.forest k there.0.kind x p.key p.offset p.kind kind_is (bare there.0.kind right) parts.1)) fit.lying);
      };
      attached = λ q so. is_within-with_fields k x w.forest 0 q ∙ so;
      kept = all.kinds;
    })

pub stays_fields : (k : ℕ) (x : Fields) → Staying (set_step k x)
stays_fields k (fields.Text text) w v fit e = stays_set k text w v fit e
stays_fields k (fields.Element element) w v fit e = stays_written k (fields.Element element) (element_bare element) (λ s. refl) w v fit e
stays_fields k (fields.Embed source) w v fit e = stays_written k (fields.Embed source) (embed_bare source) (λ s. refl) w v fit e
stays_fields k fields.Bare w v fit e = stays_written k fields.Bare none_bare (λ s. refl) w v fit e

-- ---- one thing of an element changed

stays_set_changed : (change : ElementFields → ElementFields) (k : ℕ) (o : Option Fields) → Staying (set_changed change k o)
stays_set_changed change k None w v fit e = stays_ok w w v (stays_self w fit) e
stays_set_changed change k (Some x) w v fit e = stays_fields k (element_fields_changed change x) w v fit e

pub stays_change : (change : ElementFields → ElementFields) (k : ℕ) → Staying (change_step change k)
unfolding change_step
stays_change change k w v fit e = stays_set_changed change k (fields_of w.forest k) w v fit e
