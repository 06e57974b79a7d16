-- A value by its first token, a list that grows at its end, and outcomes.
use Rattle.std.proofs.Common.{◌≡◌, ℕ, zero, suc, List, [], ◌∷◌, ◌++◌, Option, Some, None, option_map, Result, Ok, Err, OnOk, refl, ap, ◌∙◌}
use Rattle.json.specs.Token as spec
use Rattle.json.specs.Json as json
use Rattle.json.specs.Json.{parse_map}
use Rattle.json.specs.Reads.{token_of}
use Rattle.json.specs.declared.token.Token.{Token}
use Rattle.json.specs.declared.token.Token.TheVariants.{BeginObject, EndObject, BeginArray, EndArray, Key, String, Number, Bool, Null, Bad}
use Rattle.json.proofs.Grammar.{value_is}
use Rattle.serde_json.specs.Data.{array, object, Items, no_items, item, no_members}
use Rattle.serde_json.specs.Read.{of_json, of_items, of_members, converted}
use Rattle.serde_json.specs.View.{view, items_view}
use Rattle.serde_json.specs.declared.value.Value.{Value}
use Rattle.lx_value.specs.Ahead.{scalar_of, value_ahead, items_ahead, members_ahead, Refuses, Gives}
use Rattle.lx_value.specs.declared.reading.Unread.{Unread}
use Rattle.lx_value.specs.declared.reading.Unread.TheVariants.{NoJson, Memory}
use Rattle.lx_value.proofs.Turns.{passed}

-- ---- a value by its first token

array_passed : (o : Option (json.Items × List spec.Token)) → converted of_json (parse_map json.array o) ≡ parse_map array (converted of_items o)
array_passed None = refl
array_passed (Some q) = passed array q.1 (of_items q.0)

object_passed : (o : Option (json.Members × List spec.Token))
    → converted of_json (parse_map json.object o) ≡ parse_map object (converted (λ ms. of_members ms no_members) o)
object_passed None = refl
object_passed (Some q) = passed object q.1 (of_members q.0 no_members)

pub ahead_array : (depth : ℕ) (ts : List spec.Token) → value_ahead depth (spec.begin_array ∷ ts) ≡ parse_map array (items_ahead depth ts)
unfolding json.value
ahead_array zero ts = refl
ahead_array (suc depth) ts = array_passed (json.items (json.value depth) _ ts)

pub ahead_object : (depth : ℕ) (ts : List spec.Token) → value_ahead depth (spec.begin_object ∷ ts) ≡ parse_map object (members_ahead depth ts)
unfolding json.value
ahead_object zero ts = refl
ahead_object (suc depth) ts = object_passed (json.members (json.value depth) _ ts)

pub ahead_scalar : (depth : ℕ) (t : Token) (ts : List spec.Token) → (t ≡ BeginArray → ⊥) → (t ≡ BeginObject → ⊥)
    → value_ahead depth (token_of t ∷ ts) ≡ option_map (λ d. (d, ts)) (scalar_of (token_of t))
ahead_scalar depth BeginObject ts a o = absurd (o refl)
ahead_scalar depth EndObject ts a o = ap (converted of_json) (value_is depth (spec.end_object ∷ ts))
ahead_scalar depth BeginArray ts a o = absurd (a refl)
ahead_scalar depth EndArray ts a o = ap (converted of_json) (value_is depth (spec.end_array ∷ ts))
ahead_scalar depth (Key s) ts a o = ap (converted of_json) (value_is depth (spec.key s.now ∷ ts))
ahead_scalar depth (String s) ts a o = ap (converted of_json) (value_is depth (spec.string s.now ∷ ts))
ahead_scalar depth (Number s) ts a o = ap (converted of_json) (value_is depth (spec.number s.now ∷ ts))
ahead_scalar depth (Bool b) ts a o = ap (converted of_json) (value_is depth (spec.boolean b ∷ ts))
ahead_scalar depth Null ts a o = ap (converted of_json) (value_is depth (spec.null ∷ ts))
ahead_scalar depth Bad ts a o = ap (converted of_json) (value_is depth (spec.bad ∷ ts))

pub ahead_nothing : (depth : ℕ) → value_ahead depth [] ≡ None
ahead_nothing depth = ap (converted of_json) (value_is depth [])

-- ---- a list that grows at its end

-- items after those that were found
abbrev pub behind : List Value → Items → Items
behind [] rest = rest
behind (v ∷ vs) rest = item (view v) (behind vs rest)

pub behind-none : (vs : List Value) → behind vs no_items ≡ items_view vs
behind-none [] = refl
behind-none (v ∷ vs) = ap (item (view v)) (behind-none vs)

behind-last : (vs : List Value) (v : Value) (rest : Items) → behind vs (item (view v) rest) ≡ behind (vs ++ v ∷ []) rest
behind-last [] v rest = refl
behind-last (w ∷ vs) v rest = ap (item (view w)) (behind-last vs v rest)

pub one_more : (vs : List Value) (v : Value) (o : Option (Items × List spec.Token))
    → parse_map (behind vs) (parse_map (item (view v)) o) ≡ parse_map (behind (vs ++ v ∷ [])) o
one_more vs v None = refl
one_more vs v (Some q) = ap (λ ds. Some (ds, q.1)) (behind-last vs v q.0)

-- ---- outcomes

-- what is refused inside is refused outside
pub refused_outside : {B D : Type 0} (inner : Option B) (outer : Option D) (unread : Unread) → (inner ≡ None → outer ≡ None) → Refuses inner unread
    → Refuses outer unread
refused_outside inner outer NoJson goes refused = goes refused
refused_outside inner outer Memory goes refused = tt

pub for_ok : {A P : Type 0} (result : Result A Unread) → P → OnOk result P
for_ok (Ok a) holds = holds
for_ok (Err unread) holds = tt

pub scalar_gives : (depth : ℕ) (t : Token) (ts : List spec.Token) (result : Result Value Unread) → (t ≡ BeginArray → ⊥) → (t ≡ BeginObject → ⊥)
    → Gives view (scalar_of (token_of t)) result → Gives (λ v. (view v, ts)) (value_ahead depth (token_of t ∷ ts)) result
scalar_gives depth t ts (Ok v) a o gives = ahead_scalar depth t ts a o ∙ ap (option_map (λ d. (d, ts))) gives
scalar_gives depth t ts (Err NoJson) a o gives = ahead_scalar depth t ts a o ∙ ap (option_map (λ d. (d, ts))) gives
scalar_gives depth t ts (Err Memory) a o gives = tt
