-- Drafts whose selection lies in the root's tree, and steps that leave one and take nothing out of that tree.
use Rattle.std.proofs.Common.{◌≡◌, ◌∙◌, ℕ, ◌+◌, ◌*◌, ◌≤◌, Bool, true, false, cond, eqb, ◌&&◌, ◌||◌, List, length, Option, None, Some, Result, Ok, Err, refl, sym, ap, ap₂, subst, arith}
use Rattle.std.specs.Prelude.{option_map, is_some, slice_get}
use Rattle.std.specs.Option.{option_or}
use Rattle.std.proofs.lemmas.Bool.Decides.{nat_tests}
use Rattle.lx_trees.specs.Spots.{Spot}
use Rattle.lx_node.specs.Kinds.{may_hold}
use Rattle.lx_node.specs.Strings.{characters_of}
use Rattle.lx_node.specs.OfKind.{is_of_kind}
use Rattle.lx_node.specs.declared.kind.Kind.{Kind}
use Rattle.lx_node.specs.declared.fields.Fields.{Fields}
use Rattle.lx_node.specs.declared.fields.Fields.TheVariants as fields
use Rattle.lx_node.specs.declared.fields.TextFields.{TextFields}
use Rattle.lx_node.specs.declared.cause.Cause.{Cause}
use Rattle.lx_node.specs.declared.cause.Cause.TheVariants.{WrongKind}
use Rattle.lx_node.specs.declared.cause.Point.{Point}
use Rattle.lx_node.specs.Limits.{last_u32, most_characters}
use Rattle.lx_text.specs.Texts.{text_length, within, spliced_text, slice_fault}
use Rattle.lx_select.specs.declared.selection.Selection.{Selection}
use Rattle.lx_select.specs.declared.selection.Selection.TheVariants.{Nothing, Range, Nodes, Cells}
use Rattle.lx_select.specs.Selection.{each_point}
use Rattle.lx_select.specs.Rules.{put_moves, is_behind, offset_sum, splice_moves, spliced_offset, set_moves}
use Rattle.lx_forest.specs.Forest.{Forest, Label}
use Rattle.lx_forest.specs.Lookups.{has, spot, label_of, kind_of, fields_of, children_of, size_of, is_within, is_attached, holds, IsForest, IsHeld}
use Rattle.lx_forest.specs.Edits.{with_new, with_fields, put_in, CanPut}
use Rattle.lx_forest.proofs.Edits.{is_some-spot}
use Rattle.lx_forest.proofs.Held.{IsHeld-with_new, IsHeld-with_fields, IsHeld-put_in}
use Rattle.lx_forest.proofs.Lookups.{label_of-put_in}
use Rattle.lx_forest.proofs.Within.{is_within-with_fields, is_attached-with_new, is_attached-put_in}
use Rattle.lx_links.specs.Faults.{unknown, wrong_fields, set_fault}
use Rattle.lx_draft.specs.Working.{Working, TextsAreShort}
use Rattle.lx_draft.specs.Covering.{IsReady, KindsStay}
use Rattle.lx_draft.specs.Selecting.{text_of, lies_in, length_told}
use Rattle.lx_draft.specs.Faults.{answer, after, over_counts, over_limits, put_fault, beyond, text_in, text_fields, piece_fault, label_fault, splice_fault}
use Rattle.lx_draft.specs.Steps.{made, with_piece, new_step, fields_written, set_points, set_step, splice_points, label_with_piece, text_replaced, splice_step, node_placed, put_step}
use Rattle.lx_draft.proofs.Covered.{answered}
use Rattle.lx_draft.proofs.CoveredSteps.{covered-new, covered-set, covered-splice, covered-put}
use Rattle.lx_draft.proofs.Put.{both_none, can_put, none_of, put_fits}
use Rattle.lx_edit.specs.Edits.{pointed}
use Rattle.lx_blocks.specs.Ranges.{lies}
use Rattle.lx_caret.specs.Lying.{EachPoint, IsLying}
use Rattle.lx_caret.proofs.Lies.{both, text_at, lies_new, lies_spliced, lies_set, lies_put}
use Rattle.lx_draft.proofs.Short.{fields-short, splice-short, same-short}
use Rattle.lx_caret.proofs.Short.{u32-tells, written-allowed, made-short, written-short}

-- ---- points one by one

-- a rule takes points where P holds to points where Q does
pub each_moved : (P Q : Point → Type 0) (moved : Point → Point) (s : Selection) → ((x : Point) → P x → Q (moved x)) → EachPoint P s
    → EachPoint Q (each_point moved s)
each_moved P Q moved (Range a b format) step e = (step a e.0, step b e.1)
each_moved P Q moved Nothing step e = tt
each_moved P Q moved (Nodes keys) step e = tt
each_moved P Q moved (Cells t a b) step e = tt

pub each_still : (P Q : Point → Type 0) (s : Selection) → ((x : Point) → P x → Q x) → EachPoint P s → EachPoint Q s
each_still P Q (Range a b format) step e = (step a e.0, step b e.1)
each_still P Q Nothing step e = tt
each_still P Q (Nodes keys) step e = tt
each_still P Q (Cells t a b) step e = tt

pub each_both : (P Q : Point → Type 0) (s : Selection) → EachPoint P s → EachPoint Q s → EachPoint (λ x. P x × Q x) s
each_both P Q (Range a b format) e d = ((e.0, d.0), (e.1, d.1))
each_both P Q Nothing e d = tt
each_both P Q (Nodes keys) e d = tt
each_both P Q (Cells t a b) e d = tt

pub each_all : (P : Point → Type 0) (s : Selection) → ((x : Point) → P x) → EachPoint P s
each_all P (Range a b format) e = (e a, e b)
each_all P Nothing e = tt
each_all P (Nodes keys) e = tt
each_all P (Cells t a b) e = tt

-- one step after another
pub after_tells : {A B : Type 0} (r : Result A Cause) (next : A → Result B Cause) (v : B) → after r next ≡ Ok v → (u : A) × ((r ≡ Ok u) × (next u ≡ Ok v))
after_tells (Ok u) next v e = (u, (refl, e))
after_tells (Err cause) next v e = absurd (cc)

-- ---- drafts

-- a draft on which a command goes on: in order, each node holds what it may, its texts are short, and the selection lies in
-- the tree
pub record Fit (w : Working) : Type 0 where
  pub ready : IsReady w
  pub held : IsHeld may_hold w.forest
  pub short : TextsAreShort w
  pub lying : IsLying w

-- such a draft that still has what the other one had
pub record Stays (w v : Working) : Type 0 where
  pub fit : Fit v
  pub attached : (q : ℕ) → is_attached w.forest q ≡ true → is_attached v.forest q ≡ true
  pub kept : KindsStay w.forest v.forest

pub stays_self : (w : Working) → Fit w → Stays w w
stays_self w fit = record { fit = fit; attached = λ q e. e; kept = record { each = λ q kind e. e } }

pub stays_then : (u v w : Working) → Stays u v → Stays v w → Stays u w
stays_then u v w a b = record {
  fit = b.fit;
  attached = λ q e. b.attached q (a.attached q e);
  kept = record { each = λ q kind e. b.kept.each q kind (a.kept.each q kind e) };
}

pub stays_ok : (w u v : Working) → Stays w u → ◌≡◌ {A = Result Working Cause} (Ok u) (Ok v) → Stays w v
stays_ok w u v a e = let is : u ≡ v = cc in subst (Stays w) is a

-- a step that takes nothing out of the tree
abbrev pub Staying : (Working → Result Working Cause) → Type 0
Staying step = (w v : Working) → Fit w → step w ≡ Ok v → Stays w v

pub stays_after : (w v : Working) (r : Result Working Cause) (next : Working → Result Working Cause) → ((u : Working) → r ≡ Ok u → Stays w u)
    → ((u : Working) → r ≡ Ok u → Stays w u → next u ≡ Ok v → Stays u v) → after r next ≡ Ok v → Stays w v
stays_after w v (Ok u) next first second e = let a = first u refl in stays_then w u v a (second u refl a e)
stays_after w v (Err cause) next first second e = absurd (cc)

pub stays_if : (taken : Bool) (step : Working → Result Working Cause) (w v : Working) → Fit w → Staying step → cond taken (step w) (Ok w) ≡ Ok v → Stays w v
stays_if true step w v fit each e = each w v fit e
stays_if false step w v fit each e = stays_ok w w v (stays_self w fit) e

pub stays_allowed : (w v : Working) (o : Option Cause) (next : Working → Result Working Cause) → (next w ≡ Ok v → Stays w v) → after (answer o w) next ≡ Ok v
    → Stays w v
stays_allowed w v None next each e = each e
stays_allowed w v (Some cause) next each e = absurd (cc)

-- ---- points alone

pub stays_pointed : (moved : Point → Point) (w : Working) → Fit w → ((x : Point) → lies w.forest x ≡ true → lies w.forest (moved x) ≡ true)
    → Stays w (pointed moved w)
stays_pointed moved w fit each = record {
  fit = record {
    ready = record { in_order = fit.ready.in_order; free = fit.ready.free };
    held = fit.held;
    short = fit.short;
    lying = each_moved (λ x. lies w.forest x ≡ true) (λ x. lies w.forest x ≡ true) moved w.selection each fit.lying;
  };
  attached = λ q e. e;
  kept = record { each = λ q kind e. e };
}

pub stays_caret : (there : Point) (w : Working) → Fit w → lies w.forest there ≡ true → Stays w (pointed (λ p. there) w)
stays_caret there w fit e = stays_pointed (λ p. there) w fit (λ x so. e)

-- what a command leaves that sets the caret last
pub caret_fits : (u v : Working) (there : Point) → Fit u → lies u.forest there ≡ true → ◌≡◌ {A = Result Working Cause} (Ok (pointed (λ p. there) u)) (Ok v)
    → Fit v
caret_fits u v there fit so e = let is : pointed (λ p. there) u ≡ v = cc in subst Fit is (stays_caret there u fit so).fit

-- ---- new

pub stays_new : (kind : Kind) (fields : Fields) → Staying (new_step kind fields)
unfolding new_step
stays_new kind fields w v fit e =
    let told = answered (over_limits (characters_of fields) w) (made kind fields w) v e in
    let all = covered-new kind fields w (made kind fields w) fit.ready (ap (λ o. answer o (made kind fields w)) told.0) in
    let l : Label = record { key = w.next_key; kind = kind; fields = fields } in
    let free : has w.next_key w.forest ≡ false = fit.ready.free w.next_key (omega arith) in
    subst (Stays w) told.1 (record {
      fit = record {
        ready = all.ready;
        held = IsHeld-with_new may_hold w.forest fit.ready.in_order fit.held l free;
        short = made-short kind fields w fit.ready fit.short;
        lying = each_still (λ x. lies w.forest x ≡ true) (λ x. lies (with_new l w.forest) x ≡ true) w.selection (λ x so.
            let parts = both (is_attached w.forest x.key) (lies_in w.forest x) so in
            ap₂ ◌&&◌ (is_attached-with_new l w.forest x.key fit.ready.in_order free ∙ parts.0)
            (lies_new l w.forest x.key x.offset x.kind fit.ready.in_order free parts.1)) fit.lying;
      };
      attached = λ q so. is_attached-with_new l w.forest q fit.ready.in_order free ∙ so;
      kept = all.kinds;
    })

-- ---- splice

-- the text of which a piece is replaced
pub record IsSpliced (f : Forest) (k from to : ℕ) : Type 0 where
  pub text : TextFields
  pub text_is : text_in (label_of f k) ≡ Some text
  pub piece : slice_fault text.text from to ≡ None

spliced_label : (f : Forest) (k from to : ℕ) (l : Option Label) → label_of f k ≡ l → is_some l ≡ true → label_fault l from to ≡ None → IsSpliced f k from to
spliced_label f k from to None is some none = absurd (cc)
spliced_label f k from to (Some l) is some none = by_text (text_fields l.kind l.fields) refl none where
  by_text : (t : Option TextFields) → text_fields l.kind l.fields ≡ t → piece_fault l.kind t from to ≡ None → IsSpliced f k from to
  by_text None here none = absurd (cc)
  by_text (Some t) here none = record { text = t; text_is = ap text_in is ∙ here; piece = none }

known_label : (f : Forest) (k : ℕ) → unknown f k ≡ None → is_some (label_of f k) ≡ true
known_label f k none = by_spot (spot f k) refl where
  by_spot : (o : Option (Spot Label)) → spot f k ≡ o → is_some (option_map (λ s. s.label) (spot f k)) ≡ true
  by_spot None is = absurd (grind (arith, none, is, is_some-spot f k))
  by_spot (Some s) is = ap (λ o. is_some (option_map (λ s. s.label) o)) is

pub spliced : (f : Forest) (k from to : ℕ) → splice_fault k from to f ≡ None → IsSpliced f k from to
spliced f k from to none =
    let parts = both_none (unknown f k) (label_fault (label_of f k) from to) none in
    spliced_label f k from to (label_of f k) refl (known_label f k parts.0) parts.1

pub key_of_splice : (k from to len : ℕ) (x : Point) → (splice_moves k from to len x).key ≡ x.key
unfolding splice_moves
key_of_splice k from to len x = by_test (eqb x.key k) where
  by_test : (b : Bool) → (cond b (record x { offset = spliced_offset from to len x.offset }) x).key ≡ x.key
  by_test true = refl
  by_test false = refl

-- the text that a splice leaves is short, as it is with all that is written
pub spliced_short : (k from to : ℕ) (new : List ℕ) (w : Working) (s : IsSpliced w.forest k from to) → TextsAreShort w
    → text_length (spliced_text from to new s.text.text) ≤ 2 * (most_characters + (w.written + length new))
spliced_short k from to new w s short =
    let own : text_length s.text.text ≤ 2 * (most_characters + w.written) =
    subst (λ x. text_length (text_of x) ≤ 2 * (most_characters + w.written)) (text_at w.forest k s.text s.text_is).fields_are (short.each k) in
    splice-short w.written from to new s.text.text s.piece own

pub spliced_few : (k from to : ℕ) (new : List ℕ) (w : Working) (s : IsSpliced w.forest k from to) → TextsAreShort w
    → over_limits (length new) w ≡ None → text_length (spliced_text from to new s.text.text) ≤ last_u32
spliced_few k from to new w s short none =
    u32-tells (text_length (spliced_text from to new s.text.text)) (w.written + length new)
    (spliced_short k from to new w s short) (written-allowed (length new) w none)

pub splice_written : (k from to : ℕ) (new : List ℕ) (w : Working) (s : IsSpliced w.forest k from to) (x : Fields)
    → x ≡ text_replaced s.text (spliced_text from to new s.text.text) → TextsAreShort w
    → TextsAreShort (fields_written k x (length new) (splice_points k from to new) w)
splice_written k from to new w s x is short =
    written-short k x (length new) (splice_points k from to new) w
    (subst (λ y. text_length (text_of (Some y)) ≤ 2 * (most_characters + (w.written + length new))) (sym is) (spliced_short k from to new w s short)) short

pub stays_splice : (k from to : ℕ) (new : List ℕ) → Staying (splice_step k from to new)
unfolding splice_step
stays_splice k from to new w v fit e =
    let x : Fields = label_with_piece (label_of w.forest k) from to new in
    let after_it : Working = fields_written k x (length new) (splice_points k from to new) w in
    let told = answered (option_or (splice_fault k from to w.forest) (over_limits (length new) w)) after_it v e in
    let all = covered-splice k from to new w after_it fit.ready (ap (λ o. answer o after_it) told.0) in
    let none = both_none (splice_fault k from to w.forest) (over_limits (length new) w) told.0 in
    let s = spliced w.forest k from to none.0 in
    let same : x ≡ text_replaced s.text (spliced_text from to new s.text.text) = ap (λ t. with_piece t from to new) s.text_is in
    subst (Stays w) told.1 (record {
      fit = record {
        ready = all.ready;
        held = IsHeld-with_fields may_hold w.forest fit.ready.in_order fit.held k x;
        short = splice_written k from to new w s x same fit.short;
        lying = each_moved (λ p. lies w.forest p ≡ true) (λ p. lies (with_fields k x w.forest) p ≡ true) (splice_moves k from to (length_told new)) w.selection
            (λ p so.
            let parts = both (is_attached w.forest p.key) (lies_in w.forest p) so in
            ap₂ ◌&&◌
            (ap (is_attached (with_fields k x w.forest)) (key_of_splice k from to (length_told new) p) ∙ is_within-with_fields k x w.forest 0 p.key
            ∙ parts.0)
            (ap (λ y. lies_in (with_fields k y w.forest) (splice_moves k from to (length_told new) p)) same
            ∙ lies_spliced w.forest k from to new s.text p.key p.offset p.kind (text_at w.forest k s.text s.text_is) s.piece
            (spliced_few k from to new w s fit.short none.1) parts.1)) fit.lying;
      };
      attached = λ q so. is_within-with_fields k x w.forest 0 q ∙ so;
      kept = all.kinds;
    })

-- ---- set the fields of a text

kind_there : (f : Forest) (k : ℕ) → unknown f k ≡ None → (l : Label) × (label_of f k ≡ Some l)
kind_there f k none = by_label (label_of f k) refl where
  by_label : (o : Option Label) → label_of f k ≡ o → (l : Label) × (label_of f k ≡ Some l)
  by_label None is = let bad : false ≡ true = sym (ap is_some is) ∙ known_label f k none in absurd (cc)
  by_label (Some l) is = (l, is)

key_of_set : (k : ℕ) (text : List ℕ) (x : Point) → (set_moves k text x).key ≡ x.key
unfolding set_moves
key_of_set k text x = by_test (eqb x.key k) where
  by_test : (b : Bool) → (cond b (record x { offset = within text x.offset }) x).key ≡ x.key
  by_test true = refl
  by_test false = refl

right_kind : (kind : Kind) (x : Fields) (o : Option Kind) → o ≡ Some kind → wrong_fields o x ≡ None → is_of_kind kind x ≡ true
right_kind kind x None is none = absurd (cc)
right_kind kind x (Some found) is none = let same : found ≡ kind = cc in subst (λ n. is_of_kind n x ≡ true) same (by_test (is_of_kind found x) none) where
  by_test : (b : Bool) → cond b None (Some (WrongKind found)) ≡ None → b ≡ true
  by_test true e = refl
  by_test false e = absurd (cc)

pub stays_set : (k : ℕ) (u : TextFields) → Staying (set_step k (fields.Text u))
unfolding set_step
stays_set k u w v fit e =
    let x : Fields = fields.Text u in
    let after_it : Working = fields_written k x (characters_of x) (set_points k x) w in
    let told = answered (option_or (set_fault k x w.forest) (over_limits (characters_of x) w)) after_it v e in
    let all = covered-set k x w after_it fit.ready (ap (λ o. answer o after_it) told.0) in
    let first =
    both_none (unknown w.forest k) (wrong_fields (kind_of w.forest k) x) (both_none (set_fault k x w.forest) (over_limits (characters_of x) w) told.0).0 in
    let there = kind_there w.forest k first.0 in
    let kind_is : kind_of w.forest k ≡ Some there.0.kind = ap (option_map (λ l. l.kind)) there.1 in
    let fields_is : fields_of w.forest k ≡ Some there.0.fields = ap (option_map (λ l. l.fields)) there.1 in
    let right : is_of_kind there.0.kind x ≡ true = right_kind there.0.kind x (kind_of w.forest k) kind_is first.1 in
    subst (Stays w) told.1 (record {
      fit = record {
        ready = all.ready;
        held = IsHeld-with_fields may_hold w.forest fit.ready.in_order fit.held k x;
        short = written-short k x (characters_of x) (set_points k x) w (fields-short (w.written + characters_of x) x (omega arith)) fit.short;
        lying = each_moved (λ p. lies w.forest p ≡ true) (λ p. lies (with_fields k x w.forest) p ≡ true) (set_moves k u.text) w.selection (λ p so.
            let parts = both (is_attached w.forest p.key) (lies_in w.forest p) so in
            ap₂ ◌&&◌ (ap (is_attached (with_fields k x w.forest)) (key_of_set k u.text p) ∙ is_within-with_fields k x w.forest 0 p.key ∙ parts.0)
            (lies_set w.forest k there.0.kind there.0.fields u p.key p.offset p.kind kind_is fields_is right parts.1)) fit.lying;
      };
      attached = λ q so. is_within-with_fields k x w.forest 0 q ∙ so;
      kept = all.kinds;
    })

-- ---- put

-- what a put relies on
pub record IsPut (f : Forest) (k p index : ℕ) : Type 0 where
  pub may : CanPut p k f
  pub fits : holds may_hold (kind_of f p) (kind_of f k) ≡ true
  pub within : index ≤ size_of f p

not_beyond : (f : Forest) (p index : ℕ) → beyond f p index ≡ None → index ≤ size_of f p
not_beyond f p index e = grind (arith, nat_tests, e)

pub puts : (f : Forest) (k p index : ℕ) → put_fault k p index f ≡ None → IsPut f k p index
puts f k p index e =
    record { may = can_put f k p index e; fits = put_fits f k p index e; within = not_beyond f p index (none_of f k p index e).within }

pub key_of_put : (p i : ℕ) (x : Point) → (put_moves p i x).key ≡ x.key
unfolding put_moves
key_of_put p i x = by_test (is_behind p i x) where
  by_test : (b : Bool) → (cond b (record x { offset = offset_sum x.offset 1 }) x).key ≡ x.key
  by_test true = refl
  by_test false = refl

pub attached_put : (f : Forest) (k p : ℕ) (before : Option ℕ) (q : ℕ) → IsForest f → CanPut p k f → is_attached f q ≡ true
    → is_attached (put_in p before k f) q ≡ true
attached_put f k p before q h can e = is_attached-put_in p before k f q h can ∙ ap (λ b. b || (is_within f k q && is_attached f p)) e

pub stays_put : (k p index : ℕ) → Staying (put_step k p index)
unfolding put_step
stays_put k p index w v fit e =
    let told = answered (option_or (put_fault k p index w.forest) (over_counts w)) (node_placed k p index w) v e in
    let all = covered-put k p index w (node_placed k p index w) fit.ready (ap (λ o. answer o (node_placed k p index w)) told.0) in
    let is = puts w.forest k p index (both_none (put_fault k p index w.forest) (over_counts w) told.0).0 in
    let before : Option ℕ = slice_get (children_of w.forest p) index in
    let g : Forest = put_in p before k w.forest in
    subst (Stays w) told.1 (record {
      fit = record {
        ready = all.ready;
        held = IsHeld-put_in may_hold w.forest fit.ready.in_order fit.held p before k is.may is.fits;
        short = same-short w.forest g w.written (λ q. label_of-put_in p before k w.forest q fit.ready.in_order is.may) fit.short;
        lying = each_moved (λ x. lies w.forest x ≡ true) (λ x. lies g x ≡ true) (put_moves p index) w.selection (λ x so.
            let parts = both (is_attached w.forest x.key) (lies_in w.forest x) so in
            ap₂ ◌&&◌ (ap (is_attached g) (key_of_put p index x) ∙ attached_put w.forest k p before x.key fit.ready.in_order is.may parts.0)
            (lies_put w.forest k p index x.key x.offset x.kind before fit.ready.in_order is.may parts.1)) fit.lying;
      };
      attached = λ q so. attached_put w.forest k p before q fit.ready.in_order is.may so;
      kept = all.kinds;
    })
