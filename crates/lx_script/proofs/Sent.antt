-- The tokens of what is written item by item, of attributes, and of members that may be left out.
use Rattle.std.proofs.Common.{◌≡◌, ◌∙◌, ◌&&◌, ap, refl, ℕ, Bool, true, false, List, [], ◌∷◌, ◌++◌, map, Option, None, Some}
use Rattle.std.proofs.lemmas.Cmp.{nat_list_cmp_total, on_total}
use Rattle.std.specs.Cmp.{IsTotalOrder}
use Rattle.std.specs.Ordering.{is_lt, match_ordering, ordering_reverse}
use Rattle.std.specs.declared.cmp.Ordering.{Ordering}
use Rattle.std.specs.declared.cmp.Ordering.TheVariants.{Less, Equal, Greater}
use Rattle.json.specs.Token.{Token, end_object}
use Rattle.json.specs.Tree.{items_tokens, members_tokens}
use Rattle.serde_json.specs.Data.{Members, member, no_members, put}
use Rattle.serde_json.specs.View.{items_of}
use Rattle.serde_json.specs.Written.{items_outline, members_outline}
use Rattle.lx_host.specs.Words.{name_order, name_word, names_rise}
use Rattle.lx_host.specs.declared.op.Op.{Op}
use Rattle.lx_host.specs.declared.tag.Name.{Name}
use Rattle.lx_fields.specs.Parts.{natural, text_data}
use Rattle.lx_script.specs.Replies.{attributes_onto, op_data, told_view, with_handled}
use Rattle.lx_script.specs.Sent.{handled_tokens, members_in_order, view_tokens}

-- ---- what is left to write, with the closing bracket

abbrev pub ops_left : List Op → List Token
ops_left ops = items_tokens (items_outline (items_of (map op_data ops)))

abbrev pub keys_left : List ℕ → List Token
keys_left keys = items_tokens (items_outline (items_of (map natural keys)))

abbrev pub attributes_left : List (Name × List ℕ) → List Token
attributes_left attributes = members_tokens (members_outline (members_in_order attributes))

-- ---- attributes whose names rise are members in their order

order : IsTotalOrder name_order
order = on_total name_word nat_list_cmp_total

is_less : (o : Ordering) → is_lt o ≡ true → o ≡ Less
is_less Less e = refl
is_less Equal e = absurd (cc)
is_less Greater e = absurd (cc)

both : (s t : Bool) → (s && t) ≡ true → (s ≡ true) × (t ≡ true)
both true t e = (refl, e)
both false t e = absurd (cc)

-- names that rise do so without the second
rise_past : (a b : Name × List ℕ) (rest : List (Name × List ℕ)) → names_rise (a ∷ b ∷ rest) ≡ true → names_rise (a ∷ rest) ≡ true
rise_past a b [] e = refl
rise_past a b (c ∷ rest) e =
    let first = both (is_lt (name_order a.0 b.0)) (names_rise (b ∷ c ∷ rest)) e in
    let second = both (is_lt (name_order b.0 c.0)) (names_rise (c ∷ rest)) first.1 in
    let less : name_order a.0 c.0 ≡ Less = order.trans a.0 b.0 c.0 (is_less _ first.0) (is_less _ second.0) in
    ap (λ o. is_lt o && names_rise (c ∷ rest)) less ∙ second.1

-- what is put after a member that it is greater than leaves that one first
put_behind : (a b : Name × List ℕ) (ms : Members) → name_order a.0 b.0 ≡ Less
    → put (name_word b.0) (text_data b.1) (member (name_word a.0) (text_data a.1) ms) ≡ member (name_word a.0) (text_data a.1) (put (name_word b.0) (text_data b.1) ms)
put_behind a b ms less =
    ap (λ o. match_ordering o (member (name_word b.0) (text_data b.1) (member (name_word a.0) (text_data a.1) ms)) (member (name_word a.0) (text_data b.1) ms)
    (member (name_word a.0) (text_data a.1) (put (name_word b.0) (text_data b.1) ms))) (order.antisymm b.0 a.0 ∙ ap ordering_reverse less)

first_stays : (a : Name × List ℕ) (rest : List (Name × List ℕ)) (ms : Members) → names_rise (a ∷ rest) ≡ true
    → attributes_onto (member (name_word a.0) (text_data a.1) ms) rest ≡ member (name_word a.0) (text_data a.1) (attributes_onto ms rest)
first_stays a [] ms e = refl
first_stays a (b ∷ rest) ms e =
    ap (λ ns. attributes_onto ns rest) (put_behind a b ms (is_less _ (both (is_lt (name_order a.0 b.0)) (names_rise (b ∷ rest)) e).0))
    ∙ first_stays a rest (put (name_word b.0) (text_data b.1) ms) (rise_past a b rest e)

rise_rest : (a : Name × List ℕ) (rest : List (Name × List ℕ)) → names_rise (a ∷ rest) ≡ true → names_rise rest ≡ true
rise_rest a [] e = refl
rise_rest a (b ∷ rest) e = (both (is_lt (name_order a.0 b.0)) (names_rise (b ∷ rest)) e).1

pub risen : (attributes : List (Name × List ℕ)) → names_rise attributes ≡ true → attributes_onto no_members attributes ≡ members_in_order attributes
risen [] e = refl
risen (a ∷ rest) e = first_stays a rest no_members e ∙ ap (member (name_word a.0) (text_data a.1)) (risen rest (rise_rest a rest e))

-- ---- members that may be left out

pub with_handled-tokens : (handled : Option Bool) (rest : Members)
    → members_tokens (members_outline (with_handled handled rest)) ≡ handled_tokens handled ++ members_tokens (members_outline rest)
with_handled-tokens None rest = refl
with_handled-tokens (Some handled) rest = refl

pub told_view-tokens : (html : Option (List ℕ)) → members_tokens (members_outline (told_view html)) ≡ view_tokens html ++ end_object ∷ []
told_view-tokens None = refl
told_view-tokens (Some html) = refl
