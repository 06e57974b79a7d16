-- The sums that links keep: the scalar values in the strings of all nodes, how many items there are, and the scalar values in
-- their strings.
use Rattle.std.proofs.Common.{ℕ, ◌≡◌, ◌+◌, ◌-◌, ◌^◌, ◌<◌, ◌≤◌, min, Option, None, Some, option_map, Bor, refl, sym, ap, ◌∙◌, arith, inl, inr, cond, subst, eqb, true}
use Rattle.std.specs.Option.{option_copied}
use Rattle.std.proofs.lemmas.Bool.{cases_Bool}
use Rattle.std.proofs.lemmas.Bool.Decides.{eqb_tells}
use Rattle.lx_trees.specs.Trees.{nil, tree}
use Rattle.lx_trees.specs.NamedTrees.{total}
use Rattle.lx_trees.specs.Spots.{Spot}
use Rattle.lx_node.specs.Kinds.{is_item}
use Rattle.lx_node.specs.Strings.{capped, characters_of, characters_of_element, characters_of_extra}
use Rattle.lx_node.specs.declared.kind.Kind.{Kind}
use Rattle.lx_node.specs.declared.fields.Fields.{Fields}
use Rattle.lx_node.specs.declared.node.Node.{Node}
use Rattle.lx_forest.specs.Forest.{Forest, Label, root_alone}
use Rattle.lx_forest.specs.Lookups.{spot, without, IsForest}
use Rattle.lx_forest.specs.Edits.{with_new, fields_at, with_fields, take_out, put_in, drop_detached, CanPut}
use Rattle.lx_forest.specs.Records.{record_at}
use Rattle.lx_forest.specs.Weights.{weight}
use Rattle.lx_forest.proofs.Edits.{key-spot}
use Rattle.lx_forest.proofs.Walks.{cases_option}
use Rattle.lx_forest.proofs.Weights.{weight-with_new, weight-with_fields, weight-take_out, weight-put_in, weight-drop_detached, weight-le}
use Rattle.lx_links.specs.declared.sums.Sums.{Sums}
use Rattle.lx_links.specs.Characters.{characters_in, counted_in}
use Rattle.lx_links.specs.Sums.{item_characters_in, item_counted_in, items_in, own_sums, sums_of, plus, less, IsPart, AreFew, AreCounted}
use Rattle.lx_links.specs.Stands.{Nodes, Standing, Holds, node_of, forest_in}
use Rattle.lx_links.proofs.Stood.{fails, is_now, held_living}

pub same_sums : (s t : Sums) → s.characters ≡ t.characters → s.items ≡ t.items → s.item_characters ≡ t.item_characters → s ≡ t
same_sums s t e g h =
    ap (λ n. record s { characters = n }) e
    ∙ ap (λ n. record s { characters = t.characters; items = n }) g
    ∙ ap (λ n. record t { item_characters = n }) h

capped-le : (n : ℕ) → capped n ≤ 2 ^ 64 - 1
unfolding capped
capped-le n = omega arith

capped-sum : (a b c d e g : ℕ) → capped b ≡ capped c → capped d ≡ capped e → capped (capped a + b + d) ≡ capped (a + c + e)
unfolding capped
capped-sum a b c d e g h i = omega (arith, h, i)

-- a sum of numbers as a machine counts them is, as a machine counts it, the sum of the numbers
pub counted_weight : (f : Forest) → capped (weight counted_in f) ≡ capped (weight characters_in f)
counted_weight nil = refl
counted_weight (tree l below rest) =
    capped-sum (characters_of l.fields) (weight counted_in below) (weight characters_in below) (weight counted_in rest) (weight characters_in rest) 0
    (counted_weight below) (counted_weight rest)

item_counted : (l : Label) → capped (item_counted_in l) ≡ capped (item_characters_in l)
unfolding capped
item_counted l = elim (cases_Bool (is_item l.kind)) [ inl item ↦ rw item (omega arith) | inr other ↦ rw other refl ]

capped-parts : (a b c d e g : ℕ) → capped a ≡ capped b → capped c ≡ capped d → capped e ≡ capped g → capped (a + c + e) ≡ capped (b + d + g)
unfolding capped
capped-parts a b c d e g h i j = omega (arith, h, i, j)

pub counted_item_weight : (f : Forest) → capped (weight item_counted_in f) ≡ capped (weight item_characters_in f)
counted_item_weight nil = refl
counted_item_weight (tree l below rest) =
    capped-parts (item_counted_in l) (item_characters_in l) (weight item_counted_in below) (weight item_characters_in below) (weight item_counted_in rest)
    (weight item_characters_in rest) (item_counted l) (counted_item_weight below) (counted_item_weight rest)

-- ---- they are few

few_items : (kind : Kind) → cond (is_item kind) 1 0 ≤ 1
few_items kind = elim (cases_Bool (is_item kind)) [ inl item ↦ rw item (omega arith) | inr other ↦ rw other (omega arith) ]

few_item_characters : (kind : Kind) (fields : Fields) → cond (is_item kind) (capped (characters_of fields)) 0 ≤ 2 ^ 64 - 1
few_item_characters kind fields =
    elim (cases_Bool (is_item kind)) [ inl item ↦ rw item (capped-le (characters_of fields)) | inr other ↦ rw other (omega arith) ]

pub few_own : (kind : Kind) (fields : Fields) (s : Sums) → s ≡ own_sums kind fields → AreFew s
few_own kind fields s e =
    rw e (record {
      characters = omega (arith, capped-le (characters_of fields));
      items = omega (arith, few_items kind);
      item_characters = omega (arith, few_item_characters kind fields);
    })

few_sums : (f : Forest) → total f < 2 ^ 32 → AreFew (sums_of f)
few_sums f small = record {
  characters = omega (arith, small, weight-le counted_in (2 ^ 64 - 1) f (λ l. capped-le (characters_of l.fields)));
  items = omega (arith, small, weight-le items_in 1 f (λ l. few_items l.kind));
  item_characters = omega (arith, small, weight-le item_counted_in (2 ^ 64 - 1) f (λ l. few_item_characters l.kind l.fields));
}

-- the detached nodes have no more than all
pub few_gone : (f : Forest) (s : Sums) → total f < 2 ^ 32 → s ≡ sums_of (without 0 f) → AreFew s
few_gone f s small e = rw e (record {
  characters = omega (arith, (few_sums f small).characters, weight-drop_detached counted_in f);
  items = omega (arith, (few_sums f small).items, weight-drop_detached items_in f);
  item_characters = omega (arith, (few_sums f small).item_characters, weight-drop_detached item_counted_in f);
})

-- ---- what links keep of them

pub failed_counts : (n : Sums) (held : Option Nodes) (s : Standing held) → held ≡ None → AreCounted n (forest_in held s)
failed_counts n held s e = record { counts = λ some. absurd (some (fails held s e)) }

pub counts_now : (n : Sums) (m : Nodes) (s : Standing (Some m)) (f : Forest) → Holds m f → n ≡ sums_of f → AreCounted n (forest_in (Some m) s)
counts_now n m s f h e = record { counts = λ some. e ∙ ap sums_of (sym (is_now m s f h)) }

pub counted_by : (n : Sums) (held : Option Nodes) (s : Standing held) (m : Nodes) (f : Forest) → forest_in held s ≡ f → Holds m f
    → AreCounted n (forest_in held s) → n ≡ sums_of f
counted_by n held s m f e h i = let now : AreCounted n f = subst (AreCounted n) e i in now.counts (held_living m f h)

pub counted_few : (n : Sums) (held : Option Nodes) (s : Standing held) (m : Nodes) (f : Forest) → forest_in held s ≡ f → Holds m f
    → AreCounted n (forest_in held s) → AreFew n
counted_few n held s m f e h i = rw (counted_by n held s m f e h i) (few_sums f h.stands.small)

-- ---- after each edit

pub root_counts : record { characters = 0; items = 0; item_characters = 0 } ≡ sums_of root_alone
unfolding capped characters_of characters_of_element characters_of_extra is_item
root_counts = refl

pub new_counts : (n more : Sums) (f : Forest) (l : Label) → n ≡ sums_of f → more ≡ own_sums l.kind l.fields
    → plus n more ≡ sums_of (with_new l f)
new_counts n more f l e g =
    rw (e, g)
    (same_sums _ _ (omega (arith, weight-with_new counted_in l f)) (omega (arith, weight-with_new items_in l f))
    (omega (arith, weight-with_new item_counted_in l f)))

label_there : (f : Forest) (k : ℕ) (s : Spot Label) (fields : Fields) → spot f k ≡ Some s
    → fields_at k fields s.label ≡ record s.label { fields = fields }
label_there f k s fields e =
    let own : eqb s.label.key k ≡ true = grind (arith, key-spot f k s e, eqb_tells s.label.key k) in
    ap (λ t. record s.label { fields = cond t fields s.label.fields }) own

set_weight : (of : Label → ℕ) (f : Forest) (k : ℕ) (fields : Fields) (s : Spot Label) → IsForest f → spot f k ≡ Some s →
    weight of f + of (record s.label { fields = fields }) ≡ weight of (with_fields k fields f) + of s.label
set_weight of f k fields s h e = sym (weight-with_fields of k fields f s h e ∙ ap (λ l. weight of f + of l) (label_there f k s fields e))

spot_seen : (f : Forest) (k : ℕ) (n : Node) → Some n ≡ option_map node_of (record_at f k)
    → (s : Spot Label) × ((spot f k ≡ Some s) × ((n.kind ≡ s.label.kind) × (n.fields ≡ s.label.fields)))
spot_seen f k n e = elim (cases_option (spot f k)) [
  | inl none ↦ absurd (grind (arith, e, none))
  | inr (s, at) ↦ (s, (at, (grind (arith, e, at), grind (arith, e, at))))
]

set_at : (n old new : Sums) (f : Forest) (k : ℕ) (fields : Fields) (s : Spot Label) → IsForest f → spot f k ≡ Some s → n ≡ sums_of f
    → old ≡ own_sums s.label.kind s.label.fields → new ≡ own_sums s.label.kind fields → plus n new ≡ plus (sums_of (with_fields k fields f)) old
set_at n old new f k fields s h e c o w =
    rw (c, o, w) (same_sums _ _ (set_weight counted_in f k fields s h e) (set_weight items_in f k fields s h e) (set_weight item_counted_in f k fields s h e))

-- at a node that the forest has
pub node_counts : (n old new : Sums) (f : Forest) (k : ℕ) (fields : Fields) (node : Node)
    → IsForest f → n ≡ sums_of f → Some node ≡ option_map node_of (record_at f k)
    → old ≡ own_sums node.kind node.fields → new ≡ own_sums node.kind fields → plus n new ≡ plus (sums_of (with_fields k fields f)) old
node_counts n old new f k fields node h e told before after =
    let there = spot_seen f k node told in
    set_at n old new f k fields there.0 h there.1.0 e
    (before ∙ ap (λ kind. own_sums kind node.fields) there.1.1.0 ∙ ap (own_sums there.0.label.kind) there.1.1.1)
    (after ∙ ap (λ kind. own_sums kind fields) there.1.1.0)

-- over the answer of the look-up, at a node of links that stand for a forest
pub set_counts : (n old new : Sums) (held : Option Nodes) (s : Standing held) (m : Nodes) (f : Forest) (k : ℕ) (fields : Fields) (o : Option (Bor Node))
    (node : Bor Node)
    → forest_in held s ≡ f → Holds m f → AreCounted n (forest_in held s) → option_copied o ≡ option_map node_of (record_at f k) → o ≡ Some node
    → old ≡ own_sums node.now.kind node.now.fields → new ≡ own_sums node.now.kind fields → plus n new ≡ plus (sums_of (with_fields k fields f)) old
set_counts n old new held s m f k fields o node e h i seen at before after =
    node_counts n old new f k fields node.now h.stands.in_order (counted_by n held s m f e h i) (sym (ap option_copied at) ∙ seen) before after

pub take_counts : (n : Sums) (k : ℕ) (f : Forest) → n ≡ sums_of f → n ≡ sums_of (take_out k f)
take_counts n k f e = e ∙ same_sums _ _ (sym (weight-take_out counted_in k f)) (sym (weight-take_out items_in k f)) (sym (weight-take_out item_counted_in k f))

pub put_counts : (n : Sums) (p k : ℕ) (before : Option ℕ) (f : Forest) → IsForest f → CanPut p k f → n ≡ sums_of f
    → n ≡ sums_of (put_in p before k f)
put_counts n p k before f h c e =
    e ∙ same_sums _ _ (sym (weight-put_in counted_in p before k f h c.parent c.outside)) (sym (weight-put_in items_in p before k f h c.parent c.outside))
    (sym (weight-put_in item_counted_in p before k f h c.parent c.outside))

pub drop_counts : (n gone : Sums) (f : Forest) → n ≡ sums_of f → gone ≡ sums_of (without 0 f) → n ≡ plus (sums_of (drop_detached f)) gone
drop_counts n gone f e g =
    rw (e, g) (same_sums _ _ (sym (weight-drop_detached counted_in f)) (sym (weight-drop_detached items_in f)) (sym (weight-drop_detached item_counted_in f)))

-- a part is taken away

pub is_part : (n gone rest : Sums) → n ≡ plus rest gone → IsPart gone n
is_part n gone rest e = rw e (record { characters = omega arith; items = omega arith; item_characters = omega arith })

pub less_part : (n gone rest : Sums) → n ≡ plus rest gone → less n gone ≡ rest
less_part n gone rest e = rw e (same_sums _ _ (omega arith) (omega arith) (omega arith))

-- ---- what a machine counts of them

capped_is : (n told m : ℕ) → n ≡ m → told ≡ min n (2 ^ 64 - 1) → told ≡ capped m
unfolding capped
capped_is n told m e t = omega (arith, e, t)

pub characters_told : (s : Sums) (told : ℕ) (f : Forest) → s ≡ sums_of f → told ≡ min s.characters (2 ^ 64 - 1)
    → told ≡ capped (weight characters_in f)
characters_told s told f e t = capped_is s.characters told (weight counted_in f) (ap (λ (s : Sums). s.characters) e) t ∙ counted_weight f

pub no_characters : (f : Forest) → f ≡ nil → 0 ≡ capped (weight characters_in f)
unfolding capped
no_characters f e = sym (ap (λ g. capped (weight characters_in g)) e)

pub item_characters_told : (s : Sums) (told : ℕ) (f : Forest) → s ≡ sums_of f → told ≡ min s.item_characters (2 ^ 64 - 1)
    → told ≡ capped (weight item_characters_in f)
item_characters_told s told f e t =
    capped_is s.item_characters told (weight item_counted_in f) (ap (λ (s : Sums). s.item_characters) e) t ∙ counted_item_weight f

pub no_item_characters : (f : Forest) → f ≡ nil → 0 ≡ capped (weight item_characters_in f)
unfolding capped
no_item_characters f e = sym (ap (λ g. capped (weight item_characters_in g)) e)
