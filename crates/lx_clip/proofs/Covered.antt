-- The covers of trees, and what is written for them.
use Rattle.std.proofs.Common.{◌≡◌, ◌∙◌, ◌<◌, ℕ, ◌==◌, ◌&&◌, not, cond, length, Bool, true, false, map, List, [], ◌∷◌, ◌++◌, Option, None, Some, Result, Ok, Err, refl, sym, ap, subst, arith, append_assoc, append-nil}
use Rattle.std.specs.Prelude.{option_map, IfOk, IfSome}
use Rattle.std.proofs.lemmas.Option.{same_Some}
use Rattle.std.proofs.lemmas.Bool.Decides.{eqb_tells}
use Rattle.serde_json.specs.declared.value.Value.{Value}
use Rattle.serde_json.specs.Data.{Data, no_items, item}
use Rattle.serde_json.specs.View.{view, items_of, items_view}
use Rattle.lx_trees.specs.Trees.{nil, tree, joined}
use Rattle.lx_trees.specs.Spots.{Spot}
use Rattle.lx_trees.specs.NamedTrees.{total}
use Rattle.lx_trees.specs.Siblings.{is_among}
use Rattle.lx_node.specs.Kinds.{is_inline}
use Rattle.lx_node.specs.declared.kind.Kind.{Kind}
use Rattle.lx_node.specs.declared.fields.Fields.{Fields}
use Rattle.lx_node.specs.declared.fields.Fields.TheVariants as fields
use Rattle.lx_node.specs.declared.fields.TextFields.{TextFields}
use Rattle.lx_node.specs.declared.fields.ElementFields.{ElementFields}
use Rattle.lx_node.specs.declared.node.Node.{Node}
use Rattle.lx_forest.specs.Forest.{Forest, Label}
use Rattle.lx_forest.specs.Lookups.{spot, has, alone, trees_of, parent_of, children_of, siblings}
use Rattle.lx_forest.specs.Records.{linked, record_at}
use Rattle.lx_forest.proofs.Lookups.{has-child}
use Rattle.lx_forest.proofs.Walks.{total-alone-lt}
use Rattle.lx_links.specs.Stands.{node_of, Sound}
use Rattle.lx_links.proofs.Placed.{parent_of-child}
use Rattle.lx_links.proofs.Up.{in_order_at}
use Rattle.lx_draft.specs.Faults.{text_in}
use Rattle.lx_draft.specs.Selecting.{length_told}
use Rattle.lx_blocks.specs.Blocks.{is_at, passes}
use Rattle.lx_blocks.specs.Ranges.{if_normal}
use Rattle.lx_fields.specs.Exporting.{node_data}
use Rattle.lx_json.specs.Exporting.{trees_data}
use Rattle.lx_links.proofs.Read.{IsRead, tree_read}
use Rattle.lx_json.proofs.BackWritten.{written, items_of-written, written-joined, map_more}
use Rattle.lx_json.specs.GivenBack.{AreGivenBack}
use Rattle.lx_clip.specs.Extents.{AreAlike}
use Rattle.lx_clip.proofs.GivenBack.{joined_given, none_given}
use Rattle.lx_clip.specs.Covers.{Extent, from_in, to_in, is_covered_text, cut_to, part_cover, text_cover, is_nil, element_cover, leaf_cover, cover, covers, are_inline, item_if, label_for}

-- ---- one after another

joined_assoc : (a b c : Forest) → joined (joined a b) c ≡ joined a (joined b c)
joined_assoc nil b c = refl
joined_assoc (tree l below rest) b c = ap (tree l below) (joined_assoc rest b c)

pub covers-joined : (e : Extent) (a b : Forest) → covers e (joined a b) ≡ joined (covers e a) (covers e b)
unfolding covers
covers-joined e nil b = refl
covers-joined e (tree l below rest) b =
    ap (joined (cover e l.fields l (covers e below))) (covers-joined e rest b)
    ∙ sym (joined_assoc (cover e l.fields l (covers e below)) (covers e rest) (covers e b))

and_assoc : (a b c : Bool) → ((a && b) && c) ≡ (a && (b && c))
and_assoc true b c = refl
and_assoc false b c = refl

pub inline-joined : (a b : Forest) → are_inline (joined a b) ≡ (are_inline a && are_inline b)
inline-joined nil b = refl
inline-joined (tree l below rest) b =
    ap (λ x. is_inline l.kind && x) (inline-joined rest b) ∙ sym (and_assoc (is_inline l.kind) (are_inline rest) (are_inline b))

-- ---- the same nodes between, in another order

cover-alike : (d e : Extent) (of_node : Fields) (l : Label) (a b : Forest) → AreAlike d e → a ≡ b → cover d of_node l a ≡ cover e of_node l b
cover-alike d e (fields.Text text) l a b alike same = rw (alike.start, alike.end, alike.between l.key) refl
cover-alike d e (fields.Element element) l a b alike same = rw (alike.between l.key, same) refl
cover-alike d e (fields.Embed source) l a b alike same = rw (alike.between l.key) refl
cover-alike d e fields.Bare l a b alike same = rw (alike.between l.key) refl

pub covers-alike : (d e : Extent) (f : Forest) → AreAlike d e → covers d f ≡ covers e f
unfolding covers
covers-alike d e nil alike = refl
covers-alike d e (tree l below rest) alike =
    ap (λ x. joined x (covers d rest)) (cover-alike d e l.fields l (covers d below) (covers e below) alike (covers-alike d e below alike))
    ∙ ap (joined (cover e l.fields l (covers e below))) (covers-alike d e rest alike)

-- ---- the cover of a node that is read

joined_nil : (f : Forest) → joined f nil ≡ f
joined_nil nil = refl
joined_nil (tree l below rest) = ap (tree l below) (joined_nil rest)

pub cover_read : (e : Extent) (f : Forest) (key : ℕ) (n : Node) → IsRead f key n
    → covers e (alone key f) ≡ cover e n.fields (label_for key n) (covers e (trees_of f (children_of f key)))
unfolding covers
cover_read e f key n read = ap (covers e) (tree_read f key n read) ∙ joined_nil (cover e n.fields (label_for key n) (covers e (trees_of f (children_of f key))))

pub text_read : (e : Extent) (f : Forest) (key : ℕ) (n : Node) (text : TextFields) → IsRead f key n → n.fields ≡ fields.Text text
    → covers e (alone key f) ≡ text_cover e text (label_for key n)
text_read e f key n text read is = cover_read e f key n read ∙ ap (λ x. cover e x (label_for key n) (covers e (trees_of f (children_of f key)))) is

pub element_read : (e : Extent) (f : Forest) (key : ℕ) (n : Node) (element : ElementFields) → IsRead f key n → n.fields ≡ fields.Element element
    → covers e (alone key f) ≡ element_cover e (label_for key n) (covers e (trees_of f (children_of f key)))
element_read e f key n element read is = cover_read e f key n read ∙ ap (λ x. cover e x (label_for key n) (covers e (trees_of f (children_of f key)))) is

leaf_of : (e : Extent) (x : Fields) (l : Label) (below : Forest) → ((text : TextFields) → x ≡ fields.Text text → ⊥)
    → ((element : ElementFields) → x ≡ fields.Element element → ⊥) → cover e x l below ≡ leaf_cover e l
leaf_of e (fields.Text text) l below no_text no_element = absurd (no_text text refl)
leaf_of e (fields.Element element) l below no_text no_element = absurd (no_element element refl)
leaf_of e (fields.Embed source) l below no_text no_element = refl
leaf_of e fields.Bare l below no_text no_element = refl

pub leaf_read : (e : Extent) (f : Forest) (key : ℕ) (n : Node) → IsRead f key n → ((text : TextFields) → n.fields ≡ fields.Text text → ⊥)
    → ((element : ElementFields) → n.fields ≡ fields.Element element → ⊥)
    → covers e (alone key f) ≡ leaf_cover e (label_for key n)
leaf_read e f key n read no_text no_element =
    cover_read e f key n read ∙ leaf_of e n.fields (label_for key n) (covers e (trees_of f (children_of f key))) no_text no_element

-- ---- the kind of a cover

-- it is one tree at most, of this kind
abbrev pub HasKind : Kind → Forest → Type 0
HasKind kind nil = Unit {0}
HasKind kind (tree l below rest) = (l.kind ≡ kind) × (rest ≡ nil)

cut_kind : (o : Option TextFields) (from to : ℕ) (l : Label) → (cut_to o from to l).kind ≡ l.kind
cut_kind None from to l = refl
cut_kind (Some text) from to l = refl

if_kind : (b : Bool) (kind : Kind) (f : Forest) → HasKind kind f → HasKind kind (cond b f nil)
if_kind true kind f of = of
if_kind false kind f of = tt

else_kind : (b : Bool) (kind : Kind) (f : Forest) → HasKind kind f → HasKind kind (cond b nil f)
else_kind true kind f of = tt
else_kind false kind f of = of

cover_kind : (e : Extent) (x : Fields) (l : Label) (below : Forest) → HasKind l.kind (cover e x l below)
cover_kind e (fields.Text text) l below =
    let length : ℕ = length_told text.text in
    let from : ℕ = from_in e l.key in
    let to : ℕ = to_in e l.key length in
    if_kind (is_covered_text e l.key length) l.kind (part_cover from to l) (cut_kind (if_normal (text_in (Some l))) from to l, refl)
cover_kind e (fields.Element element) l below = else_kind (is_nil below && not (is_among l.key e.between)) l.kind (tree l below nil) (refl, refl)
cover_kind e (fields.Embed source) l below = if_kind (is_among l.key e.between) l.kind (tree l nil nil) (refl, refl)
cover_kind e fields.Bare l below = if_kind (is_among l.key e.between) l.kind (tree l nil nil) (refl, refl)

pub kind_read : (e : Extent) (f : Forest) (key : ℕ) (n : Node) → IsRead f key n → HasKind n.kind (covers e (alone key f))
kind_read e f key n read =
    subst (HasKind n.kind) (sym (cover_read e f key n read)) (cover_kind e n.fields (label_for key n) (covers e (trees_of f (children_of f key))))

inline_of : (kind : Kind) (c : Forest) (d : Data) → HasKind kind c → trees_data c ≡ item d no_items → are_inline c ≡ is_inline kind
unfolding trees_data
inline_of kind nil d of is = absurd (cc)
inline_of kind (tree l below rest) d of is =
    ap (λ k. is_inline k && are_inline rest) of.0 ∙ ap (λ f. is_inline kind && are_inline f) of.1 ∙ and_true (is_inline kind) where
      and_true : (b : Bool) → (b && true) ≡ b
      and_true true = refl
      and_true false = refl

-- ---- an element

not_both : (a b : Bool) → b ≡ true → (a && not b) ≡ false
not_both true true e = refl
not_both false true e = refl
not_both a false e = absurd (cc)

-- it has something below it, or lies between
pub is_kept : (e : Extent) (l : Label) (f : Forest) (d : Data) → (is_nil f && not (is_among l.key e.between)) ≡ false
    → d ≡ node_data l.kind l.fields (trees_data f) → trees_data (element_cover e l f) ≡ item d no_items
unfolding trees_data
is_kept e l f d kept is = ap (λ b. trees_data (cond b nil (tree l f nil))) kept ∙ ap (λ d. item d no_items) (sym is)

pub lies_between : (e : Extent) (l : Label) (f : Forest) → is_among l.key e.between ≡ true → (is_nil f && not (is_among l.key e.between)) ≡ false
lies_between e l f between = not_both (is_nil f) (is_among l.key e.between) between

pub has_some : (e : Extent) (l : Label) (f : Forest) (vs : List Value) (n : ℕ) → n ≡ length vs → items_view vs ≡ trees_data f → (n == 0) ≡ false
    → (is_nil f && not (is_among l.key e.between)) ≡ false
unfolding trees_data
has_some e l f [] n count same some = let bad : true ≡ false = ap (λ k. k == 0) (sym count) ∙ some in absurd (cc)
has_some e l nil (v ∷ vs) n count same some = absurd (cc)
has_some e l (tree m below rest) (v ∷ vs) n count same some = refl

-- ---- what calls answer for a node

-- the node that is read of a key has the kind of the key
pub is_kind : (test : Kind → Bool) (f : Forest) (key : ℕ) (n : Node) → Some n ≡ option_map node_of (record_at f key) → is_at test f key ≡ test n.kind
is_kind test f key n read = by_spot (spot f key) refl read where
  by_spot : (o : Option (Spot Label)) → spot f key ≡ o → Some n ≡ option_map node_of (option_map (linked (siblings f key) key) o)
      → is_at test f key ≡ test n.kind
  by_spot None at e = absurd (cc)
  by_spot (Some x) at e =
      let same : n ≡ node_of (linked (siblings f key) key x) = same_Some n (node_of (linked (siblings f key) key x)) e in
      ap (λ o. passes test (option_map (λ (l : Label). l.kind) (option_map (λ (s : Spot Label). s.label) o))) at ∙ sym (ap (λ (m : Node). test m.kind) same)

pub as_written : {E : Type 0} (r : Result (Option Value) E) (c d : Forest) → c ≡ d → IfOk r (λ v. trees_data d ≡ item_if (option_map view v))
    → IfOk r (λ v. trees_data c ≡ item_if (option_map view v))
as_written (Ok v) c d same written = ap trees_data same ∙ written
as_written (Err e) c d same written = tt

pub as_element : {E : Type 0} (r : Result (Option Value) E) (e : Extent) (l : Label) (vs : List Value) (below : Forest) → items_view vs ≡ trees_data below
    → IfOk r (λ v. (f : Forest) → items_view vs ≡ trees_data f → trees_data (element_cover e l f) ≡ item_if (option_map view v))
    → IfOk r (λ v. trees_data (element_cover e l below) ≡ item_if (option_map view v))
as_element (Ok v) e l vs below same written = written below same
as_element (Err x) e l vs below same written = tt

pub as_inline : {E : Type 0} (r : Result (Option Value) E) (kind : Kind) (c : Forest) (b : Bool) → HasKind kind c → b ≡ is_inline kind
    → IfOk r (λ v. trees_data c ≡ item_if (option_map view v))
    → IfOk r (λ v. IfSome v (λ x. are_inline c ≡ b))
as_inline (Ok (Some x)) kind c b of is written = inline_of kind c (view x) of written ∙ sym is
as_inline (Ok None) kind c b of is written = tt
as_inline (Err e) kind c b of is written = tt

pub some_kind : {P : Type 0} (o : Option Value) (v : Value) → o ≡ Some v → IfSome o (λ x. P) → P
some_kind (Some x) v is of = of
some_kind None v is of = absurd (cc)

-- ---- what is written for covers

abbrev pub data_if : Option Data → List Data
data_if None = []
data_if (Some d) = d ∷ []

one_written : (f : Forest) (o : Option Data) → trees_data f ≡ item_if o → written f ≡ data_if o
unfolding trees_data
one_written nil None e = refl
one_written nil (Some d) e = absurd (cc)
one_written (tree l below rest) None e = absurd (cc)
one_written (tree l below nil) (Some d) e = ap (λ x. x ∷ []) (let same : node_data l.kind l.fields (trees_data below) ≡ d = cc in same)
one_written (tree l below (tree m under rest)) (Some d) e = absurd (cc)

-- ---- the children one after another

-- What is written for some of the children, and whether that is inline, with what is left comes to what all come to.
pub record IsCoveredUpTo (e : Extent) (f : Forest) (all left : List ℕ) (values : List Value) (inline : Bool) : Type 0 where
  pub part : (q : ℕ) → is_among q left ≡ true → is_among q all ≡ true
  pub objects : map view values ++ written (covers e (trees_of f left)) ≡ written (covers e (trees_of f all))
  pub alike : (inline && are_inline (covers e (trees_of f left))) ≡ are_inline (covers e (trees_of f all))
  pub told : AreGivenBack (covers e (trees_of f left)) → AreGivenBack (covers e (trees_of f all))

-- the covers of the first of those that are left, and of the rest
parted : (e : Extent) (f : Forest) (left rest : List ℕ) (k : ℕ) → left ≡ k ∷ rest
    → covers e (trees_of f left) ≡ joined (covers e (alone k f)) (covers e (trees_of f rest))
parted e f left rest k first = ap (λ ks. covers e (trees_of f ks)) first ∙ covers-joined e (alone k f) (trees_of f rest)

given_more : (e : Extent) (f : Forest) (left rest : List ℕ) (k : ℕ) → left ≡ k ∷ rest → AreGivenBack (covers e (alone k f))
    → AreGivenBack (covers e (trees_of f rest)) → AreGivenBack (covers e (trees_of f left))
given_more e f left rest k first given others =
    subst AreGivenBack (sym (parted e f left rest k first)) (joined_given (covers e (alone k f)) (covers e (trees_of f rest)) given others)

left_part : (all left rest : List ℕ) (k q : ℕ) → ((q : ℕ) → is_among q left ≡ true → is_among q all ≡ true) → left ≡ k ∷ rest → is_among q rest ≡ true
    → is_among q all ≡ true
left_part all left rest k q part first among = part q (ap (is_among q) first ∙ grind (arith, among))

nothing_is_inline : (f : Forest) → trees_data f ≡ no_items → are_inline f ≡ true
unfolding trees_data
nothing_is_inline nil e = refl
nothing_is_inline (tree l below rest) e = absurd (cc)

-- nothing of a child is covered
pub covered_past : (e : Extent) (f : Forest) (all left rest : List ℕ) (k : ℕ) (values : List Value) (inline : Bool) → IsCoveredUpTo e f all left values inline
    → left ≡ k ∷ rest → trees_data (covers e (alone k f)) ≡ no_items
    → IsCoveredUpTo e f all rest values inline
covered_past e f all left rest k values inline m first none = record {
  part = λ q among. left_part all left rest k q m.part first among;
  objects =
      ap (λ ds. map view values ++ (ds ++ written (covers e (trees_of f rest)))) (sym (one_written (covers e (alone k f)) None none))
      ∙ ap (λ ds. map view values ++ ds)
      (sym (written-joined (covers e (alone k f)) (covers e (trees_of f rest))) ∙ ap written (sym (parted e f left rest k first)))
      ∙ m.objects;
  alike =
      ap (λ b. inline && (b && are_inline (covers e (trees_of f rest)))) (sym (nothing_is_inline (covers e (alone k f)) none))
      ∙ ap (λ b. inline && b) (sym (inline-joined (covers e (alone k f)) (covers e (trees_of f rest))) ∙ ap are_inline (sym (parted e f left rest k first)))
      ∙ m.alike;
  told = λ others. m.told (given_more e f left rest k first (none_given (covers e (alone k f)) none) others);
}

-- one child more
pub covered_more : (e : Extent) (f : Forest) (all left rest : List ℕ) (k : ℕ) (values new : List Value) (inline then : Bool) (v : Value)
    → IsCoveredUpTo e f all left values inline → left ≡ k ∷ rest → new ≡ values ++ v ∷ []
    → then ≡ (inline && is_at is_inline f k) → trees_data (covers e (alone k f)) ≡ item (view v) no_items
    → are_inline (covers e (alone k f)) ≡ is_at is_inline f k → AreGivenBack (covers e (alone k f)) → IsCoveredUpTo e f all rest new then
covered_more e f all left rest k values new inline then v m first is then_is own kind given = record {
  part = λ q among. left_part all left rest k q m.part first among;
  objects =
      ap (λ vs. map view vs ++ written (covers e (trees_of f rest))) is
      ∙ ap (λ ds. ds ++ written (covers e (trees_of f rest))) (map_more values v)
      ∙ append_assoc (map view values) (view v ∷ []) (written (covers e (trees_of f rest)))
      ∙ ap (λ ds. map view values ++ (ds ++ written (covers e (trees_of f rest)))) (sym (one_written (covers e (alone k f)) (Some (view v)) own))
      ∙ ap (λ ds. map view values ++ ds)
      (sym (written-joined (covers e (alone k f)) (covers e (trees_of f rest))) ∙ ap written (sym (parted e f left rest k first)))
      ∙ m.objects;
  alike =
      ap (λ b. b && are_inline (covers e (trees_of f rest))) (then_is ∙ ap (λ b. inline && b) (sym kind))
      ∙ and_assoc inline (are_inline (covers e (alone k f))) (are_inline (covers e (trees_of f rest)))
      ∙ ap (λ b. inline && b) (sym (inline-joined (covers e (alone k f)) (covers e (trees_of f rest))) ∙ ap are_inline (sym (parted e f left rest k first)))
      ∙ m.alike;
  told = λ others. m.told (given_more e f left rest k first given others);
}

-- what the call for a child needs
pub record IsChildLeft (f : Forest) (key child : ℕ) : Type 0 where
  pub there : has child f ≡ true
  pub smaller : total (alone child f) < total (alone key f)

pub child_left : (e : Extent) (f : Forest) (key child : ℕ) (all left rest : List ℕ) (values : List Value) (inline : Bool) → Sound f → all ≡ children_of f key
    → IsCoveredUpTo e f all left values inline → left ≡ child ∷ rest → IsChildLeft f key child
child_left e f key child all left rest values inline s is m first =
    let among : is_among child left ≡ true = ap (is_among child) first ∙ grind (arith, eqb_tells child child) in
    let up : parent_of f child ≡ Some key = parent_of-child f child key s (sym (ap (is_among child) is) ∙ m.part child among) in
    let there : has child f ≡ true = has-child f child key up in
    record { there = there; smaller = total-alone-lt f child key (in_order_at f child s there) up }

-- all children
pub all_covered : (e : Extent) (f : Forest) (key : ℕ) (all left : List ℕ) (values : List Value) (inline : Bool) → all ≡ children_of f key → left ≡ []
    → IsCoveredUpTo e f all left values inline
    → items_view values ≡ trees_data (covers e (trees_of f (children_of f key)))
unfolding covers
all_covered e f key all left values inline is none m =
    ap items_of
    (sym (append-nil (map view values)) ∙ sym (ap (λ ks. map view values ++ written (covers e (trees_of f ks))) none) ∙ m.objects
    ∙ ap (λ ks. written (covers e (trees_of f ks))) is)
    ∙ items_of-written (covers e (trees_of f (children_of f key)))

pub all_inline : (e : Extent) (f : Forest) (key : ℕ) (all left : List ℕ) (values : List Value) (inline : Bool) → all ≡ children_of f key → left ≡ []
    → IsCoveredUpTo e f all left values inline
    → inline ≡ are_inline (covers e (trees_of f (children_of f key)))
unfolding covers
all_inline e f key all left values inline is none m =
    by_all inline ∙ sym (ap (λ ks. inline && are_inline (covers e (trees_of f ks))) none) ∙ m.alike ∙ ap (λ ks. are_inline (covers e (trees_of f ks))) is
  where
    by_all : (b : Bool) → b ≡ (b && true)
    by_all true = refl
    by_all false = refl

pub all_given : (e : Extent) (f : Forest) (key : ℕ) (all left : List ℕ) (values : List Value) (inline : Bool) → all ≡ children_of f key → left ≡ []
    → IsCoveredUpTo e f all left values inline
    → AreGivenBack (covers e (trees_of f (children_of f key)))
unfolding covers
all_given e f key all left values inline is none m =
    subst (λ ks. AreGivenBack (covers e (trees_of f ks))) is (m.told (subst (λ ks. AreGivenBack (covers e (trees_of f ks))) (sym none) tt))
