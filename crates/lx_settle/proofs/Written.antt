-- Fields that are written anew, and a text that grows, are others than before.
use Rattle.std.proofs.Common.{◌≡◌, ◌∙◌, ℕ, ◌+◌, ◌<◌, Bool, true, false, cond, eqb, not, List, [], ◌∷◌, length, Option, None, Some, option_map, Ok, refl, sym, ap, arith}
use Rattle.std.specs.List.{list_all}
use Rattle.std.specs.Option.{option_or}
use Rattle.std.proofs.lemmas.Bool.Decides.{eqb_tells}
use Rattle.lx_trees.specs.Spots.{Spot}
use Rattle.lx_node.specs.Strings.{characters_of}
use Rattle.lx_node.specs.declared.kind.Kind.{Kind}
use Rattle.lx_node.specs.declared.kind.Kind.TheVariants as kind
use Rattle.lx_node.specs.declared.fields.Extra.{Extra}
use Rattle.lx_node.specs.declared.fields.Extra.TheVariants as extra
use Rattle.lx_node.specs.declared.fields.ElementFields.{ElementFields}
use Rattle.lx_node.specs.declared.fields.TextFields.{TextFields}
use Rattle.lx_node.specs.declared.fields.Fields.{Fields}
use Rattle.lx_node.specs.declared.fields.Fields.TheVariants as fields
use Rattle.lx_node.specs.declared.node.View.{View}
use Rattle.lx_node.proofs.Same.{same_fields-Decides}
use Rattle.lx_text.specs.Texts.{text_length, spliced_text, slice_fault}
use Rattle.lx_text.proofs.Places.{length-some}
use Rattle.lx_text.proofs.Told.{splice-length}
use Rattle.lx_step.specs.Patches.{has, with_member, element_with_member, with_extra, with_members, patched}
use Rattle.lx_step.specs.declared.member.Member.{Member}
use Rattle.lx_step.specs.declared.member.Member.TheVariants.{Direction, Align, Indent, TextFormat, TextStyle, Start, Checked, Rel, Target, Title, Url, HeaderState, ColSpan, RowSpan, Background}
use Rattle.lx_forest.specs.Forest.{Forest, Label}
use Rattle.lx_forest.specs.Lookups.{spot, label_of, fields_of}
use Rattle.lx_forest.specs.Views.{unnumbered, seen_fields, viewed, view_of}
use Rattle.lx_forest.proofs.Lookups.{fields_of-with_fields}
use Rattle.lx_links.specs.Faults.{unknown, set_fault}
use Rattle.lx_draft.specs.Working.{Working}
use Rattle.lx_draft.specs.Faults.{over_limits, splice_fault, text_fields, piece_fault, label_fault}
use Rattle.lx_draft.specs.Steps.{fields_written, set_points, set_step, with_piece, label_with_piece, splice_points, splice_step}
use Rattle.lx_draft.proofs.Put.{both_none}
use Rattle.lx_draft.proofs.Covered.{answered}
use Rattle.lx_rules.specs.Idle.{differs, has_text}
use Rattle.lx_settle.specs.Acting.{written, patched_in}

-- ---- a patch doesn't see an item's number

extra_written : (m : Member) (x : Extra) → with_extra m (unnumbered x) ≡ unnumbered (with_extra m x)
unfolding with_extra
extra_written (Start start) (extra.List old) = refl
extra_written (Checked checked) (extra.Item value old) = refl
extra_written (Rel rel) (extra.Link old target title url) = refl
extra_written (Target target) (extra.Link rel old title url) = refl
extra_written (Title title) (extra.Link rel target old url) = refl
extra_written (Url url) (extra.Link rel target title old) = refl
extra_written (HeaderState header) (extra.Cell old row_span col_span background) = refl
extra_written (RowSpan row_span) (extra.Cell header old col_span background) = refl
extra_written (ColSpan col_span) (extra.Cell header row_span old background) = refl
extra_written (Background background) (extra.Cell header row_span col_span old) = refl
extra_written _ _ = refl

element_written : (m : Member) (old : ElementFields)
    → element_with_member m (record old { extra = unnumbered old.extra })
    ≡ record (element_with_member m old) { extra = unnumbered (element_with_member m old).extra }
unfolding element_with_member
element_written (Direction d) old = refl
element_written (Align a) old = refl
element_written (Indent i) old = refl
element_written (TextFormat f) old = refl
element_written (TextStyle s) old = refl
element_written m old = ap (λ x. let e : ElementFields = record old { extra = x } in e) (extra_written m old.extra)

seen_written : (m : Member) (f : Fields) → with_member m (seen_fields f) ≡ seen_fields (with_member m f)
unfolding with_member
seen_written m (fields.Element old) = ap (λ x. fields.Element x) (element_written m old)
seen_written m _ = refl

all_written : (ms : List Member) (f : Fields) → with_members ms (seen_fields f) ≡ seen_fields (with_members ms f)
all_written [] f = refl
all_written (m ∷ ms) f = ap (with_members ms) (seen_written m f) ∙ all_written ms (with_member m f)

patched_by : (b : Bool) (ms : List Member) (f : Fields) → cond b (Some (with_members ms f)) None ≡ Some f
    → cond b (Some (with_members ms (seen_fields f))) None ≡ Some (seen_fields f)
patched_by true ms f e = let same : with_members ms f ≡ f = cc in ap (λ x. Some x) (all_written ms f ∙ ap seen_fields same)
patched_by false ms f e = absurd (cc)

patched_same : (k : Kind) (ms : List Member) (f : Fields) → patched k ms f ≡ Some f → patched k ms (seen_fields f) ≡ Some (seen_fields f)
unfolding patched
patched_same k ms f e = patched_by (list_all (has k) ms) ms f e

unpatched_by : (b : Bool) (ms : List Member) (f g : Fields) → cond b (Some (with_members ms f)) None ≡ None → cond b (Some (with_members ms g)) None ≡ None
unpatched_by true ms f g e = absurd (cc)
unpatched_by false ms f g e = refl

unpatched : (k : Kind) (ms : List Member) (f g : Fields) → patched k ms f ≡ None → patched k ms g ≡ None
unfolding patched
unpatched k ms f g e = unpatched_by (list_all (has k) ms) ms f g e

-- ---- views

pub record Sees (f : Forest) (q : ℕ) (v : View) : Type 0 where
  pub label : Label
  pub is : label_of f q ≡ Some label
  pub kind : v.kind ≡ label.kind
  pub fields : v.fields ≡ seen_fields label.fields

sees_by : (f : Forest) (q : ℕ) (o : Option (Spot Label)) (v : View) → spot f q ≡ o → option_map (viewed f q) o ≡ Some v → Sees f q v
sees_by f q None v at e = absurd (cc)
sees_by f q (Some s) v at e = record { label = s.label; is = ap (option_map (λ (t : Spot Label). t.label)) at; kind = cc; fields = cc }

pub sees : (f : Forest) (q : ℕ) (v : View) → view_of f q ≡ Some v → Sees f q v
sees f q v e = sees_by f q (spot f q) v refl e

-- ---- set

set_fields : (k : ℕ) (new old : Fields) (w v : Working) → fields_of w.forest k ≡ Some old → set_step k new w ≡ Ok v → fields_of v.forest k ≡ Some new
unfolding set_step
set_fields k new old w v is e =
    ap (λ (x : Working). fields_of x.forest k)
    (sym ((answered (option_or (set_fault k new w.forest) (over_limits (characters_of new) w))
    (fields_written k new (characters_of new) (set_points k new) w) v e).1))
    ∙ fields_of-with_fields k new w.forest k ∙ ap (option_map (λ x. cond (eqb k k) new x)) is ∙ grind (arith, eqb_tells k k)

nothing_differs : (k : Kind) (ms : List Member) (f : Fields) → patched k ms f ≡ Some f → differs (patched k ms (seen_fields f)) (seen_fields f) ≡ false
nothing_differs k ms f e =
    ap (λ o. differs o (seen_fields f)) (patched_same k ms f e) ∙ ap not ((same_fields-Decides (seen_fields f) (seen_fields f)).1 refl)

set_by : (o : Option Fields) (l : Label) (ms : List Member) (k : ℕ) (w v : Working) → patched l.kind ms l.fields ≡ o → fields_of w.forest k ≡ Some l.fields
    → written o k w ≡ Ok v
    → fields_of v.forest k ≡ Some l.fields → differs (patched l.kind ms (seen_fields l.fields)) (seen_fields l.fields) ≡ false
set_by None l ms k w v is was e now = ap (λ o. differs o (seen_fields l.fields)) (unpatched l.kind ms l.fields (seen_fields l.fields) is)
set_by (Some new) l ms k w v is was e now =
    let same : new ≡ l.fields = let both : Some new ≡ Some l.fields = sym (set_fields k new l.fields w v was e) ∙ now in cc in
    nothing_differs l.kind ms l.fields (is ∙ ap (λ x. Some x) same)

pub set_changes : (ms : List Member) (k : ℕ) (w v : Working) (x : View) → view_of w.forest k ≡ Some x → written (patched_in (label_of w.forest k) ms) k w ≡ Ok v
    → spot v.forest k ≡ spot w.forest k
    → differs (patched x.kind ms x.fields) x.fields ≡ false
set_changes ms k w v x seen e same =
    let s = sees w.forest k x seen in
    let was : fields_of w.forest k ≡ Some s.label.fields = ap (option_map (λ (l : Label). l.fields)) s.is in
    let now : fields_of v.forest k ≡ Some s.label.fields =
    ap (λ o. option_map (λ (l : Label). l.fields) (option_map (λ (t : Spot Label). t.label) o)) same ∙ was in
    ap (λ a. differs (patched a ms x.fields) x.fields) s.kind ∙ ap (λ a. differs (patched s.label.kind ms a) a) s.fields
    ∙ set_by (patched s.label.kind ms s.label.fields) s.label ms k w v refl was (ap (λ o. written (patched_in o ms) k w) (sym s.is) ∙ e) now

-- ---- add

longer : (from to : ℕ) (new text : List ℕ) → from ≡ to → has_text new ≡ true → slice_fault text from to ≡ None → spliced_text from to new text ≡ text → ⊥
longer from to [] text is e fault same = absurd (cc)
longer from to (c ∷ new) text is e fault same =
    more (text_length (c ∷ new)) (text_length text) from to is (length-some c new)
    (ap (λ t. text_length t + to) (sym same) ∙ splice-length from to (c ∷ new) text fault) where
      more : (n m a b : ℕ) → a ≡ b → 0 < n → m + b ≡ m + n + a → ⊥
      more n m a b is some e = omega (arith, is, some, e)

piece_in : (o : Option TextFields) (k : Kind) (n : ℕ) → piece_fault k o n n ≡ None → (t : TextFields) × (o ≡ Some t) × (slice_fault t.text n n ≡ None)
piece_in None k n e = absurd (cc)
piece_in (Some t) k n e = (t, refl, e)

text_in_fields : (k : Kind) (f : Fields) (t : TextFields) → text_fields k f ≡ Some t → f ≡ fields.Text t
text_in_fields kind.Text (fields.Text u) t e = let same : u ≡ t = cc in ap (λ x. fields.Text x) same
text_in_fields _ _ t e = absurd (cc)

splice_fields : (k n : ℕ) (new : List ℕ) (l : Label) (w v : Working) → label_of w.forest k ≡ Some l → splice_step k n n new w ≡ Ok v
    → (piece_fault l.kind (text_fields l.kind l.fields) n n ≡ None) × (fields_of v.forest k ≡ Some (label_with_piece (Some l) n n new))
unfolding splice_step
splice_fields k n new l w v is e =
    let f : Fields = label_with_piece (label_of w.forest k) n n new in
    let a = answered (option_or (splice_fault k n n w.forest) (over_limits (length new) w)) (fields_written k f (length new) (splice_points k n n new) w) v e in
    let fault =
    (both_none (unknown w.forest k) (label_fault (label_of w.forest k) n n)
    ((both_none (splice_fault k n n w.forest) (over_limits (length new) w) a.0).0)).1 in (
      ap (λ o. label_fault o n n) (sym is) ∙ fault,
      ap (λ (x : Working). fields_of x.forest k) (sym a.1) ∙ fields_of-with_fields k f w.forest k
          ∙ ap (λ o. option_map (λ x. cond (eqb k k) f x) (option_map (λ (y : Label). y.fields) o)) is ∙ own (eqb k k) (grind
          (arith, eqb_tells k k)) ∙ ap (λ o. Some (label_with_piece o n n new)) is,
    ) where
      own : (b : Bool) → b ≡ true
          → ◌≡◌ {A = Option Fields} (Some (cond b (label_with_piece (label_of w.forest k) n n new) l.fields))
          (Some (label_with_piece (label_of w.forest k) n n new))
      own b e = ap (λ x. Some (cond x (label_with_piece (label_of w.forest k) n n new) l.fields)) e

add_by : (k : Kind) (f : Fields) (n : ℕ) (new : List ℕ) (t : TextFields) → text_fields k f ≡ Some t → slice_fault t.text n n ≡ None → has_text new ≡ true
    → with_piece (text_fields k f) n n new ≡ f → ⊥
add_by k f n new t is fault some same =
    let old : f ≡ fields.Text t = text_in_fields k f t is in
    let both : fields.Text (record t { text = spliced_text n n new t.text }) ≡ fields.Text t = ap (λ o. with_piece o n n new) (sym is) ∙ same ∙ old in
    let texts : spliced_text n n new t.text ≡ t.text = ap text_part both in
    longer n n new t.text refl some fault texts where
      text_part : Fields → List ℕ
      text_part (fields.Text u) = u.text
      text_part _ = []

pub add_changes : (n : ℕ) (new : List ℕ) (k : ℕ) (w v : Working) (x : View) → view_of w.forest k ≡ Some x → has_text new ≡ true → splice_step k n n new w ≡ Ok v
    → spot v.forest k ≡ spot w.forest k → ⊥
add_changes n new k w v x seen some e same =
    let s = sees w.forest k x seen in
    let p = splice_fields k n new s.label w v s.is e in
    let t = piece_in (text_fields s.label.kind s.label.fields) s.label.kind n p.0 in
    let now : fields_of v.forest k ≡ Some s.label.fields =
    ap (λ o. option_map (λ (l : Label). l.fields) (option_map (λ (t : Spot Label). t.label) o)) same ∙ ap (option_map (λ (l : Label). l.fields)) s.is in
    let fields_same : label_with_piece (Some s.label) n n new ≡ s.label.fields =
    let both : Some (label_with_piece (Some s.label) n n new) ≡ Some s.label.fields = sym p.1 ∙ now in cc in
    add_by s.label.kind s.label.fields n new t.0 t.1 t.2 some fields_same
