-- What holds of each new node and of each that is put, and of one after another, holds of the nodes that are read into a draft.
use Rattle.std.proofs.Common.{◌≡◌, ℕ, ◌+◌, Bool, true, false, cond, List, [], ◌∷◌, codes, Option, None, Some, Result, Ok, Err, refl, subst}
use Rattle.std.specs.Str.{bytes_eq}
use Rattle.serde_json.specs.Data.{Data, null, boolean, number, string, array, object, Items, no_items, item, Members, no_members, member}
use Rattle.lx_node.specs.Kinds.{is_element}
use Rattle.lx_node.specs.declared.kind.Kind.{Kind}
use Rattle.lx_node.specs.declared.fields.Fields.{Fields}
use Rattle.lx_node.specs.declared.cause.Cause.{Cause}
use Rattle.lx_forest.specs.Lookups.{size_of}
use Rattle.lx_draft.specs.Working.{Working}
use Rattle.lx_draft.specs.Faults.{after}
use Rattle.lx_draft.specs.Steps.{new_step, put_step}
use Rattle.lx_edit.proofs.Paths.{Leads, self, ok}
use Rattle.lx_json.specs.Reading.{Piece, and_then, told_under, child_place, piece_of}
use Rattle.lx_json.specs.Nodes.{put_below, node_new, made_with, node_made, children_made, list_made, items_made, Made, index_place, with_first, nodes_made, nodes_read}
use Rattle.lx_blocks.proofs.Paths.{IsWay, LeadsTo}

-- a relation of a draft to what it became that holds of those two steps and composes
pub record IsMaking (D : Working → Type 0) (R : Working → Working → Type 0) : Type 0 where
  pub ready : (w v : Working) → R w v → D v
  pub same : (w : Working) → D w → R w w
  pub composed : (u v w : Working) → R u v → R v w → R u w
  pub new : (kind : Kind) (fields : Fields) → Leads D R (new_step kind fields)
  pub put : (k p index : ℕ) → Leads D R (put_step k p index)

-- as one that holds of every step does
pub making_of : {D : Working → Type 0} {R : Working → Working → Type 0} → IsWay D R → IsMaking D R
making_of way = record {
  ready = way.ready;
  same = self way;
  composed = way.composed;
  new = way.new;
  put = λ k p index w v r e. way.put k p index w v tt r e;
}

-- what is said from elsewhere is made all the same
told_ok : {A : Type 0} (place : List ℕ) (r : Result A Cause) (v : A) → told_under place r ≡ Ok v → r ≡ Ok v
told_ok place (Ok u) v e = e
told_ok place (Err cause) v e = absurd (cc)

module _ {D : Working → Type 0} {R : Working → Working → Type 0} (making : IsMaking D R) where
  stays : Leads D R (λ w. Ok w)
  stays w v r e = ok R w w v (making.same w r) e

  either : (taken : Bool) (one other : Working → Result Working Cause) → Leads D R one → Leads D R other → Leads D R (λ w. cond taken (one w) (other w))
  either true one other a b w v r e = a w v r e
  either false one other a b w v r e = b w v r e

  then_to : {A B : Type 0} (one : A → Working) (two : B → Working) (w : Working) (b : B) (r : Result A Cause) (next : A → Result B Cause)
      → ((a : A) → r ≡ Ok a → R w (one a)) → ((a : A) → D (one a) → next a ≡ Ok b → R (one a) (two b)) → after r next ≡ Ok b → R w (two b)
  then_to one two w b (Ok a) next first second e = let x = first a refl in making.composed w (one a) (two b) x (second a (making.ready w (one a) x) e)
  then_to one two w b (Err cause) next first second e = absurd (cc)

  then : (w v : Working) (r : Result Working Cause) (next : Working → Result Working Cause) → ((u : Working) → r ≡ Ok u → R w u)
      → ((u : Working) → D u → next u ≡ Ok v → R u v) → after r next ≡ Ok v → R w v
  then w v r next first second e = then_to {A = Working} {B = Working} (λ u. u) (λ x. x) w v r next first second e

  made_ok : (w : Working) (a b : Made) → R w a.draft → ◌≡◌ {A = Result Made Cause} (Ok a) (Ok b) → R w b.draft
  made_ok w a b c e = let is : a ≡ b = cc in subst (λ x. R w x.draft) is c

  put_below_path : (parent : Option ℕ) (k : ℕ) → Leads D R (put_below parent k)
  put_below_path None k w v r e = stays w v r e
  put_below_path (Some p) k w v r e = making.put k p (size_of w.forest p) w v r e

  node_new_path : (piece : Piece) (parent : Option ℕ) → Leads D R (node_new piece parent)
  node_new_path piece parent w v r e =
      then w v (new_step piece.kind piece.fields w) (put_below parent w.next_key) (λ u f. making.new piece.kind piece.fields w u r f)
      (λ u s f. put_below_path parent w.next_key u v s f) e

  made_with_path : (piece : Piece) (parent : Option ℕ) (children : Working → Result Working Cause) → Leads D R children
      → Leads D R (made_with piece parent children)
  made_with_path piece parent children leads w v r e =
      then w v (node_new piece parent w) (λ made. cond (is_element piece.kind) (children made) (Ok made)) (λ u f. node_new_path piece parent w u r f)
      (λ u s f. either (is_element piece.kind) children (λ y. Ok y) leads stays u v s f) e

  by_piece : (w v : Working) (r : Result Piece Cause) (next : Piece → Result Working Cause) → ((piece : Piece) → next piece ≡ Ok v → R w v)
      → and_then r next ≡ Ok v → R w v
  by_piece w v (Ok piece) next each e = each piece e
  by_piece w v (Err cause) next each e = absurd (cc)

  mutual
    unfolding node_made children_made list_made items_made

    node_made_path : (d : Data) (above : Kind) (parent : Option ℕ) → Leads D R (node_made d above parent)
    node_made_path (object ms) above parent w v r e =
        by_piece w v (piece_of (Some above) (object ms)) (λ piece. made_with piece parent (children_made ms piece.kind w.next_key) w)
        (λ piece f. made_with_path piece parent (children_made ms piece.kind w.next_key) (children_made_path ms piece.kind w.next_key) w v r f) e
    node_made_path null above parent w v r e = absurd (cc)
    node_made_path (boolean b) above parent w v r e = absurd (cc)
    node_made_path (number n) above parent w v r e = absurd (cc)
    node_made_path (string text) above parent w v r e = absurd (cc)
    node_made_path (array ds) above parent w v r e = absurd (cc)

    children_made_path : (ms : Members) (kind : Kind) (parent : ℕ) → Leads D R (children_made ms kind parent)
    children_made_path no_members kind parent w v r e = stays w v r e
    children_made_path (member name d rest) kind parent w v r e =
        either (bytes_eq (codes "children") name) (list_made d kind parent) (children_made rest kind parent) (list_made_path d kind parent)
        (children_made_path rest kind parent) w v r e

    list_made_path : (d : Data) (kind : Kind) (parent : ℕ) → Leads D R (list_made d kind parent)
    list_made_path (array ds) kind parent w v r e = items_made_path ds 0 kind parent w v r e
    list_made_path null kind parent w v r e = stays w v r e
    list_made_path (boolean b) kind parent w v r e = stays w v r e
    list_made_path (number n) kind parent w v r e = stays w v r e
    list_made_path (string text) kind parent w v r e = stays w v r e
    list_made_path (object ms) kind parent w v r e = stays w v r e

    items_made_path : (ds : Items) (i : ℕ) (kind : Kind) (parent : ℕ) → Leads D R (items_made ds i kind parent)
    items_made_path no_items i kind parent w v r e = stays w v r e
    items_made_path (item d ds) i kind parent w v r e =
        then w v (told_under (child_place i) (node_made d kind (Some parent) w)) (items_made ds (i + 1) kind parent)
        (λ u f. node_made_path d kind (Some parent) w u r (told_ok (child_place i) (node_made d kind (Some parent) w) u f))
        (λ u s f. items_made_path ds (i + 1) kind parent u v s f) e

  nodes_made_path : (ds : Items) (i : ℕ) (kind : Kind) → LeadsTo Made D R (λ made. made.draft) (nodes_made ds i kind)
  unfolding nodes_made
  nodes_made_path no_items i kind w a r e = made_ok w (record { draft = w; keys = [] }) a (making.same w r) e
  nodes_made_path (item d ds) i kind w a r e =
      then_to {A = Working} {B = Made} (λ u. u) (λ x. x.draft) w a (told_under (index_place i) (node_made d kind None w))
      (λ u. after (nodes_made ds (i + 1) kind u) (with_first w.next_key))
      (λ u f. node_made_path d kind None w u r (told_ok (index_place i) (node_made d kind None w) u f))
      (λ u s f. then_to {A = Made} {B = Made} (λ x. x.draft) (λ x. x.draft) u a (nodes_made ds (i + 1) kind u) (with_first w.next_key)
      (λ b g. nodes_made_path ds (i + 1) kind u b s g)
      (λ b s g. made_ok b.draft (record { draft = b.draft; keys = w.next_key ∷ b.keys }) a (making.same b.draft s) g) f) e

  pub nodes_read_path : (place : List ℕ) (d : Data) (kind : Kind) → LeadsTo Made D R (λ made. made.draft) (nodes_read place d kind)
  unfolding nodes_read
  nodes_read_path place (array ds) kind w a r e = nodes_made_path ds 0 kind w a r (told_ok place (nodes_made ds 0 kind w) a e)
  nodes_read_path place null kind w a r e = absurd (cc)
  nodes_read_path place (boolean b) kind w a r e = absurd (cc)
  nodes_read_path place (number n) kind w a r e = absurd (cc)
  nodes_read_path place (string text) kind w a r e = absurd (cc)
  nodes_read_path place (object ms) kind w a r e = absurd (cc)
