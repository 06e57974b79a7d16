-- A text that is spliced where it is, as one that is set.
use Rattle.std.proofs.Common.{append_assoc, ◌≡◌, ◌∙◌, ℕ, ◌+◌, ◌-◌, ◌<◌, ◌≤◌, true, cond, eqb, List, [], ◌∷◌, ◌++◌, length, Option, None, Some, Result, Ok, Err, option_map, refl, sym, ap, subst, inl, inr, arith, encode_utf8, encode_utf8_all, chars, length-append}
use Rattle.std.specs.Prelude.{OnOk}
use Rattle.std.specs.Char.{len_utf8}
use Rattle.std.specs.FinMap.{get}
use Rattle.std.proofs.lemmas.Bool.Decides.{nat_tests, eqb_tells}
use Rattle.std.proofs.lemmas.Str.{length-encode, encodes-append}
use Rattle.lx_node.specs.Cuts.{Cuts, IsCut}
use Rattle.lx_node.specs.OfKind.{is_of_kind, fits_kind, is_text_of, are_text_fields}
use Rattle.lx_node.specs.declared.kind.Kind.{Kind}
use Rattle.lx_node.specs.declared.kind.Kind.TheVariants.{Text}
use Rattle.lx_node.specs.declared.fields.TextFields.{TextFields}
use Rattle.lx_node.specs.declared.fields.Fields.{Fields}
use Rattle.lx_node.specs.declared.fields.Fields.TheVariants as fields
use Rattle.lx_node.specs.declared.node.Node.{Node}
use Rattle.lx_trees.specs.Spots.{Spot}
use Rattle.lx_store.specs.Edits.{with_item, with_edit}
use Rattle.lx_forest.specs.Forest.{Forest, Label}
use Rattle.lx_forest.specs.Lookups.{siblings, spot, label_of, kind_of, fields_of}
use Rattle.lx_forest.specs.Edits.{with_fields}
use Rattle.lx_forest.specs.Records.{record_at, linked}
use Rattle.lx_forest.specs.Suited.{is_suited}
use Rattle.lx_forest.proofs.Walks.{cases_option}
use Rattle.lx_links.specs.declared.splices.TextSplice.{TextSplice}
use Rattle.lx_joints.specs.Changes.{Differs}
use Rattle.lx_links.specs.Changes.{with_content}
use Rattle.lx_links.specs.Faults.{set_fault}
use Rattle.lx_links.specs.Splices.{before_byte, from_byte, text_spliced, fields_spliced, node_spliced, FitsSplice, FitsFields, MaySplice}
use Rattle.lx_links.specs.Stands.{Nodes, Holds, node_of}
use Rattle.lx_links.proofs.Maps.{node_differs}
use Rattle.lx_links.proofs.Edited.{set_stands}
use Rattle.lx_links.proofs.Refused.{set_fine}
use Rattle.lx_links.proofs.Seen.{seen}
use Rattle.lx_links.proofs.Stood.{get_stands}

-- ---- where bytes cut a text

some_bytes : (c : ℕ) → 0 < len_utf8 c
some_bytes c = grind (arith, nat_tests)

one_more : (c : ℕ) (text : List ℕ) → length (encode_utf8_all (c ∷ text)) ≡ len_utf8 c + length (encode_utf8_all text)
one_more c text = omega (arith, length-append (encode_utf8 c) (encode_utf8_all text), length-encode c)

before_none : (text : List ℕ) → before_byte 0 text ≡ []
unfolding before_byte
before_none [] = refl
before_none (c ∷ text) = grind (arith, nat_tests, some_bytes c)

from_none : (text : List ℕ) → from_byte 0 text ≡ text
unfolding from_byte
from_none [] = refl
from_none (c ∷ text) = grind (arith, nat_tests, some_bytes c)

before_first : (bytes c : ℕ) (text : List ℕ) → len_utf8 c ≤ bytes → before_byte bytes (c ∷ text) ≡ c ∷ before_byte (bytes - len_utf8 c) text
unfolding before_byte
before_first bytes c text h = grind (arith, nat_tests, h)

from_first : (bytes c : ℕ) (text : List ℕ) → len_utf8 c ≤ bytes → from_byte bytes (c ∷ text) ≡ from_byte (bytes - len_utf8 c) text
unfolding from_byte
from_first bytes c text h = grind (arith, nat_tests, h)

before_seam : (bytes : ℕ) (front back : List ℕ) → length (encode_utf8_all front) ≡ bytes → before_byte bytes (front ++ back) ≡ front
before_seam bytes [] back e = ap (λ n. before_byte n back) (sym e) ∙ before_none back
before_seam bytes (c ∷ front) back e =
    before_first bytes c (front ++ back) (omega (arith, e, one_more c front))
    ∙ ap (λ cs. c ∷ cs) (before_seam (bytes - len_utf8 c) front back (omega (arith, e, one_more c front)))

from_seam : (bytes : ℕ) (front back : List ℕ) → length (encode_utf8_all front) ≡ bytes → from_byte bytes (front ++ back) ≡ back
from_seam bytes [] back e = ap (λ n. from_byte n back) (sym e) ∙ from_none back
from_seam bytes (c ∷ front) back e =
    from_first bytes c (front ++ back) (omega (arith, e, one_more c front))
    ∙ from_seam (bytes - len_utf8 c) front back (omega (arith, e, one_more c front))

-- ---- the node

-- a text that is cut in three, with another piece between the outer ones
pub spliced_is : (splice : TextSplice) (text before within behind : List ℕ) → Cuts splice.front splice.piece before within behind text
    → text_spliced splice text ≡ before ++ chars splice.text.now ++ behind
spliced_is splice text before within behind cut =
    let whole : text ≡ before ++ (within ++ behind) = cut.whole ∙ append_assoc before within behind in
    let both : length (encode_utf8_all (before ++ within)) ≡ splice.front + splice.piece =
    omega (arith, cut.front_is, cut.piece_is, ap length (encodes-append before within), length-append (encode_utf8_all before) (encode_utf8_all within)) in
    ap (λ cs. (cs ++ chars splice.text.now) ++ from_byte (splice.front + splice.piece) text)
    (ap (before_byte splice.front) whole ∙ before_seam splice.front before (within ++ behind) cut.front_is)
    ∙ ap (λ cs. (before ++ chars splice.text.now) ++ cs)
    (ap (from_byte (splice.front + splice.piece)) cut.whole ∙ from_seam (splice.front + splice.piece) (before ++ within) behind both)

same_node : (splice : TextSplice) (n : Node) (old : TextFields) (text : List ℕ) → n.fields ≡ fields.Text old → text_spliced splice old.text ≡ text
    → node_spliced splice n ≡ with_content (fields.Text (record old { text = text })) true n
same_node splice n old text is e =
    ap (λ x. record n { fields = fields_spliced splice x }) is ∙ ap (λ cs. record n { fields = fields.Text (record old { text = cs }) }) e

pub spliced_differs : (old new : Nodes) (k : ℕ) (splice : TextSplice) (n : Node) (t : TextFields) (before within behind : List ℕ)
    → get old k ≡ Some n → n.fields ≡ fields.Text t → Cuts splice.front splice.piece before within behind t.text
    → new ≡ with_edit (node_spliced splice) k old
    → Differs (λ q. with_content (fields.Text (record t { text = before ++ chars splice.text.now ++ behind })) (eqb q k)) (get old) (get new)
spliced_differs old new k splice n t before within behind there is cut e =
    let x : Fields = fields.Text (record t { text = before ++ chars splice.text.now ++ behind }) in
    node_differs old new k (with_content x) (λ n. refl)
    (e ∙ ap (λ o. with_item old k (option_map (node_spliced splice) o)) there
    ∙ ap (λ m. with_item old k (Some m))
    (same_node splice n t (before ++ chars splice.text.now ++ behind) is (spliced_is splice t.text before within behind cut))
    ∙ ap (λ o. with_item old k (option_map (with_content x true) o)) (sym there))

-- the edit itself
pub edited_in_place : {T E : Type 0} (r : Result T E) (splice : TextSplice) (n : Node) (old : TextFields) (text : List ℕ) → n.fields ≡ fields.Text old
    → FitsSplice splice n
    → OnOk r ((before within behind : List ℕ) → Cuts splice.front splice.piece before within behind old.text → text ≡ before ++ chars splice.text.now ++ behind)
    → OnOk r (◌≡◌ {A = Node} (record n { fields = fields.Text (record old { text = text }) }) (node_spliced splice n))
edited_in_place (Ok x) splice n old text is fits made =
    let cut : IsCut splice.front splice.piece old.text = subst (FitsFields splice) is fits in
    sym
    (same_node splice n old text is
    (spliced_is splice old.text cut.before cut.within cut.behind cut.cuts ∙ sym (made cut.before cut.within cut.behind cut.cuts)))
edited_in_place (Err e) splice n old text is fits made = tt

-- what is under the key then
pub node_refielded : (old new : Nodes) (k : ℕ) (n : Node) (x : Fields) → Differs (λ q. with_content x (eqb q k)) (get old) (get new)
    → get old k ≡ Some n
    → get new k ≡ Some (record n { fields = x })
node_refielded old new k n x d there =
    let own : eqb k k ≡ true = grind (arith, eqb_tells k k) in
    d.each k ∙ ap (option_map (with_content x (eqb k k))) there ∙ ap (λ b. Some (record n { fields = cond b x n.fields })) own

-- ---- the forest

-- the node of a key that is a text
pub record TextNode (m : Nodes) (f : Forest) (k : ℕ) : Type 0 where
  pub node : Node
  pub there : get m k ≡ Some node
  pub told : Some node ≡ option_map node_of (record_at f k)
  pub kind_is : node.kind ≡ Text

spot_there : (f : Forest) (k : ℕ) → kind_of f k ≡ Some Text → (s : Spot Label) × (spot f k ≡ Some s)
spot_there f k e = elim (cases_option (spot f k)) [
  | inl none ↦ absurd (grind (arith, e, none))
  | inr (s, at) ↦ (s, at)
]

pub text_node : (m : Nodes) (f : Forest) (k front piece : ℕ) → Holds m f → MaySplice k front piece f → TextNode m f k
text_node m f k front piece h may =
    let s = spot_there f k may.kind_is in
    let n : Node = node_of (linked (siblings f k) k s.0) in
    let told : option_map node_of (record_at f k) ≡ Some n = ap (λ o. option_map node_of (option_map (linked (siblings f k) k) o)) s.1 in
    let kind : Some n.kind ≡ Some Text = sym ((seen f k n (sym told)).kind) ∙ may.kind_is in
    record { node = n; there = get_stands m f k h.stands ∙ told; told = sym told; kind_is = cc }

-- a text stays one of its kind
text_suited : (t : TextFields) (text : List ℕ) → is_of_kind Text (fields.Text t) ≡ true → is_of_kind Text (fields.Text (record t { text = text })) ≡ true
unfolding is_of_kind fits_kind is_text_of are_text_fields
text_suited t text h = h

label_suited : (o : Option Label) (kind : Kind) (x : Fields) → option_map (λ l. l.kind) o ≡ Some kind → option_map (λ l. l.fields) o ≡ Some x
    → is_suited o ≡ true
    → is_of_kind kind x ≡ true
label_suited None kind x e g h = cc
label_suited (Some l) kind x e g h =
    let k : l.kind ≡ kind = cc in let y : l.fields ≡ x = cc in ap (λ z. is_of_kind z x) (sym k) ∙ ap (is_of_kind l.kind) (sym y) ∙ h

pub splice_fine : (m : Nodes) (f : Forest) (k : ℕ) (t : TextFields) (text : List ℕ) → Holds m f → kind_of f k ≡ Some Text → fields_of f k ≡ Some (fields.Text t)
    → (n : Node) → Some n ≡ option_map node_of (record_at f k) → n.kind ≡ Text → set_fault k (fields.Text (record t { text = text })) f ≡ None
splice_fine m f k t text h kind is n told same =
    set_fine k (fields.Text (record t { text = text })) f n (seen f k n told)
    (ap (λ z. is_of_kind z (fields.Text (record t { text = text }))) same
    ∙ text_suited t text (label_suited (label_of f k) Text (fields.Text t) kind is (h.suited.each k)))

pub splice_stands : (old new : Nodes) (f : Forest) (k : ℕ) (t : TextFields) (text : List ℕ) → Holds old f → kind_of f k ≡ Some Text
    → fields_of f k ≡ Some (fields.Text t)
    → TextNode old f k → Differs (λ q. with_content (fields.Text (record t { text = text })) (eqb q k)) (get old) (get new)
    → Holds new (with_fields k (fields.Text (record t { text = text })) f)
splice_stands old new f k t text h kind is n d =
    set_stands old new f k (fields.Text (record t { text = text })) h (splice_fine old f k t text h kind is n.node n.told n.kind_is) d

-- the node's fields are those that the forest has
pub text_of_node : (m : Nodes) (f : Forest) (k : ℕ) (t : TextFields) (n : TextNode m f k) → fields_of f k ≡ Some (fields.Text t) → n.node.fields ≡ fields.Text t
text_of_node m f k t n is =
    let e : Some n.node.fields ≡ Some (fields.Text t) = sym ((seen f k n.node n.told).fields) ∙ is in cc

-- so it may be cut there
pub fits_text : (m : Nodes) (f : Forest) (k : ℕ) (t : TextFields) (splice : TextSplice) (n : Node) → TextNode m f k → fields_of f k ≡ Some (fields.Text t)
    → IsCut splice.front splice.piece t.text → get m k ≡ Some n → FitsSplice splice n
fits_text m f k t splice n found is cut there =
    let both : Some found.node ≡ Some n = sym found.there ∙ there in
    let same : found.node ≡ n = cc in
    subst (FitsFields splice) (sym (ap (λ (x : Node). x.fields) (sym same) ∙ text_of_node m f k t found is)) cut
