use Rattle.std.proofs.Common.{◌≡◌, ◌-◌, ◌<◌, [], ◌∷◌, length, Some, None, string_bytes, sym, ap, ◌∙◌, subst, arith, rules}
use Rattle.json.specs.Json.{parse_map, after_end_array, read_key}
use Rattle.json.specs.Reads.{token_of}
use Rattle.json.proofs.Grammar.{read_key-shorter}
use Rattle.serde_json.specs.Data.{array, object, put}
use Rattle.serde_json.specs.View.{view, members_view}
use Rattle.serde_json.proofs.Views.{view-Array, view-Object, members_view-insert_entry}
use Rattle.lx_value.specs.Ahead.{value_ahead, items_from, members_from, items_ahead, members_ahead, Gives}
use Rattle.lx_value.proofs.Turns.{items_over, item_read, item_refused, members_over, members_refused, member_read, member_refused}
use Rattle.lx_value.proofs.Values.{behind, behind-none, one_more, ahead_array, ahead_object, ahead_nothing, scalar_gives, for_ok, refused_outside}
use Rattle.lx_value.proofs.reading.+next.Goals as goal

pub next_array-items-preserved : goal.next_array-items-preserved
next_array-items-preserved t c =
    let l = c.items in
    let depth = c.args.depth - 1 in
    let v = c.in-Ok.item in
    let r = c.next_value.new.reader in
    let going : (after_end_array l.reader ≡ None) × (c.take_end_array.new.self ≡ l.reader) = grind arith in
    let read : value_ahead depth l.reader ≡ Some (view v, r) = ap (value_ahead depth) (sym going.1) ∙ c.in-Ok.ensures.gives in
    let less : length r < length c.take_end_array.new.self = c.in-Ok.ensures.shorter in (
      l.invariant.0,
      l.invariant.1 ∙ ap (parse_map (behind l.found.items)) (item_read depth l.reader r (view v) going.0 read) ∙ one_more l.found.items v (items_from depth r)
          ∙ ap (λ vs. parse_map (behind vs) (items_from depth r)) (sym c.in_ok-push-in-Ok.ensures.items),
      omega (arith, l.invariant.2, ap length going.1, less),
    )

pub next_array-returns-in-Err-clause-gives : goal.next_array-returns-in-Err-clause-gives
next_array-returns-in-Err-clause-gives t c =
    let l = c.items in
    let depth = c.args.depth - 1 in
    let going : (after_end_array l.reader ≡ None) × (c.take_end_array.new.self ≡ l.reader) = grind arith in
    refused_outside (value_ahead depth c.take_end_array.new.self) (items_ahead c.args.depth c.args.reader.now) c.in-Err.unread
    (λ none. l.invariant.1 ∙ ap (parse_map (behind l.found.items)) (item_refused depth l.reader going.0 (ap (value_ahead depth) (sym going.1) ∙ none)))
    c.in-Err.ensures.gives

pub next_array-returns-clause-gives : goal.next_array-returns-clause-gives
next_array-returns-clause-gives t c =
    let l = c.items in
    let r = c.take_end_array.new.self in
    let closed : after_end_array l.reader ≡ Some r = grind arith in
    l.invariant.1 ∙ ap (parse_map (behind l.found.items)) (items_over (c.args.depth - 1) l.reader r closed)
    ∙ ap (λ ds. Some (ds, r)) (behind-none l.found.items)

pub next_object-members-preserved : goal.next_object-members-preserved
next_object-members-preserved t c =
    let l = c.members in
    let depth = c.args.depth - 1 in
    let old = members_view l.found.entries in
    let k = c.in-Ok-Some.name.now in
    let s = c.next_key.new.self in
    let r = c.next_value.new.reader in
    let v = c.in-Ok.member in
    let named : read_key l.reader ≡ Some (Some k, s) = grind arith in
    let copied : string_bytes c.in_ok-name-in-Ok-Some.name ≡ k = search rules in
    let inserted : members_view c.insert.new.self.entries ≡ put k (view v) old =
    ap members_view c.in_ok-insert-in-Ok.ensures.entries ∙ members_view-insert_entry l.found.entries c.in_ok-name-in-Ok-Some.name v
    ∙ ap (λ name. put name (view v) old) copied in
    let less : length r < length s = c.in-Ok.ensures.shorter in (
      l.invariant.0,
      l.invariant.1 ∙ member_read depth old k l.reader s r (view v) named c.in-Ok.ensures.gives ∙ ap (λ found. members_from depth found r) (sym inserted),
      omega (arith, l.invariant.2, read_key-shorter l.reader (Some k) s named, less),
    )

pub next_object-returns-in-Err-next_value-clause-gives :
    goal.next_object-returns-in-Err-next_value-clause-gives
next_object-returns-in-Err-next_value-clause-gives t c =
    let l = c.members in
    let depth = c.args.depth - 1 in
    let k = c.in-Ok-Some.name.now in
    let s = c.next_key.new.self in
    let named : read_key l.reader ≡ Some (Some k, s) = grind arith in
    refused_outside (value_ahead depth s) (members_ahead c.args.depth c.args.reader.now) c.in-Err-next_value.unread
    (λ none. l.invariant.1 ∙ member_refused depth (members_view l.found.entries) k l.reader s named none) c.in-Err-next_value.ensures.gives

pub next_object-returns-in-Ok-None-clause-gives : goal.next_object-returns-in-Ok-None-clause-gives
next_object-returns-in-Ok-None-clause-gives t c =
    let l = c.members in
    let closed : read_key l.reader ≡ Some (None, c.next_key.new.self) = grind arith in
    l.invariant.1 ∙ members_over (c.args.depth - 1) (members_view l.found.entries) l.reader c.next_key.new.self closed

pub next_object-returns-in-Err-clause-gives : goal.next_object-returns-in-Err-clause-gives
next_object-returns-in-Err-clause-gives t c =
    let l = c.members in
    let none : read_key l.reader ≡ None = grind arith in
    l.invariant.1 ∙ members_refused (c.args.depth - 1) (members_view l.found.entries) l.reader none

pub next_value-returns-in_default-clause-gives : goal.next_value-returns-in_default-clause-gives
next_value-returns-in_default-clause-gives t c =
    let empty : c.args.reader.now ≡ [] = grind arith in
    ap (value_ahead c.args.depth) empty ∙ ahead_nothing c.args.depth

pub next_value-returns-in-Ok-clause-gives : goal.next_value-returns-in-Ok-clause-gives
next_value-returns-in-Ok-clause-gives t c =
    let depth = c.args.depth in
    let behind_it = c.next.new.self in
    let first : c.args.reader.now ≡ token_of c.in-Some.token ∷ behind_it = grind arith in
    let opened = ap (value_ahead depth) (first ∙ ap (λ k. token_of k ∷ behind_it) c.in-BeginArray.is) ∙ ahead_array depth behind_it in
    opened ∙ ap (parse_map array) c.in-Ok.ensures.gives ∙ ap (λ d. Some (d, c.next_array.new.reader)) (sym (view-Array c.in-Ok.items))

pub next_value-returns-in-Err-clause-gives : goal.next_value-returns-in-Err-clause-gives
next_value-returns-in-Err-clause-gives t c =
    let depth = c.args.depth in
    let behind_it = c.next.new.self in
    let first : c.args.reader.now ≡ token_of c.in-Some.token ∷ behind_it = grind arith in
    let opened = ap (value_ahead depth) (first ∙ ap (λ k. token_of k ∷ behind_it) c.in-BeginArray.is) ∙ ahead_array depth behind_it in
    refused_outside (items_ahead depth behind_it) (value_ahead depth c.args.reader.now) c.in-Err.unread (λ none. opened ∙ ap (parse_map array) none)
    c.in-Err.ensures.gives

pub next_value-returns-in-Ok-next_object-clause-gives :
    goal.next_value-returns-in-Ok-next_object-clause-gives
next_value-returns-in-Ok-next_object-clause-gives t c =
    let depth = c.args.depth in
    let behind_it = c.next.new.self in
    let first : c.args.reader.now ≡ token_of c.in-Some.token ∷ behind_it = grind arith in
    let opened = ap (value_ahead depth) (first ∙ ap (λ k. token_of k ∷ behind_it) c.in-BeginObject.is) ∙ ahead_object depth behind_it in
    opened ∙ ap (parse_map object) c.in-Ok-next_object.ensures.gives
    ∙ ap (λ d. Some (d, c.next_object.new.reader)) (sym (view-Object c.in-Ok-next_object.members))

pub next_value-returns-in-Err-next_object-clause-gives :
    goal.next_value-returns-in-Err-next_object-clause-gives
next_value-returns-in-Err-next_object-clause-gives t c =
    let depth = c.args.depth in
    let behind_it = c.next.new.self in
    let first : c.args.reader.now ≡ token_of c.in-Some.token ∷ behind_it = grind arith in
    let opened = ap (value_ahead depth) (first ∙ ap (λ k. token_of k ∷ behind_it) c.in-BeginObject.is) ∙ ahead_object depth behind_it in
    refused_outside (members_ahead depth behind_it) (value_ahead depth c.args.reader.now) c.in-Err-next_object.unread
    (λ none. opened ∙ ap (parse_map object) none) c.in-Err-next_object.ensures.gives

pub next_value-returns-in_default-token : goal.next_value-returns-in_default-token
next_value-returns-in_default-token t c =
    let depth = c.args.depth in
    let behind_it = c.next.new.self in
    let first : c.args.reader.now ≡ token_of c.in-Some.token ∷ behind_it = grind arith in
    let less : length behind_it < length c.args.reader.now = omega (arith, ap length first) in
    record {
      gives =
          subst (λ ts. Gives (λ v. (view v, behind_it)) (value_ahead depth ts) c.scalar.result) (sym first)
          (scalar_gives depth c.in-Some.token behind_it c.scalar.result c.in_default-token.not-BeginArray c.in_default-token.not-BeginObject c.scalar.ensures);
      shorter = for_ok c.scalar.result less;
    }
