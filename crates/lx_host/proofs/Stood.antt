-- What is known of a table that stands for trees, and what edits of it leave.
use Rattle.std.proofs.Common.{ℕ, ◌≡◌, ◌<◌, ◌+◌, ◌^◌, true, false, nat_eq, List, Option, None, Some, Result, Ok, Err, option_map, is_some, Bor, refl, sym, ap, ◌∙◌, subst}
use Rattle.std.specs.Option.{option_copied}
use Rattle.std.specs.Result.{OnOk}
use Rattle.std.specs.declared.convert.Infallible.{Infallible}
use Rattle.std.specs.HashMap.{HashMap}
use Rattle.indexmap.specs.IndexMap.{get}
use Rattle.lx_trees.specs.Trees.{Trees}
use Rattle.lx_trees.specs.NamedTrees.{has}
use Rattle.lx_trees.specs.Siblings.{is_place, place_behind}
use Rattle.lx_trees.specs.Lookups.{children_of}
use Rattle.lx_trees.specs.Edits.{take_out, put_in, CanPut}
use Rattle.lx_trees.specs.Records.{Record, record_at}
use Rattle.lx_trees.proofs.Records.{IsRecordOf-record_at, is_some-record_at}
use Rattle.lx_trees.proofs.Places.{take_out-top}
use Rattle.lx_trees.proofs.Attached.{no_parent}
use Rattle.lx_joints.specs.Changes.{Differs, on_links, unlinked, linked_in}
use Rattle.lx_joints.specs.Stands.{AreRecords}
use Rattle.lx_joints.proofs.Stands as joints
use Rattle.lx_host.specs.Hosts.{Host, id_of}
use Rattle.lx_host.specs.declared.linked.Linked.{Linked}
use Rattle.lx_host.specs.Links.{links_of, with_links}
use Rattle.lx_host.specs.Stands.{GroveView, record_of, linked_of, Stands, Standing, hosts_in, hosts_in-stands}

are : AreRecords links_of with_links record_of linked_of
are = record { linked = λ q n. refl; relinked_is = λ q l n. refl; back = λ q n. refl }

pub is_some_in : (o : Option (Bor Linked)) (f : Trees Host) (q : ℕ) → option_copied o ≡ option_map linked_of (record_at id_of f q) → is_some o ≡ has id_of q f
is_some_in = joints.is_some_in id_of linked_of

-- what never fails has what it has where it succeeds
pub always : {T P : Type 0} (r : Result T Infallible) → OnOk r P → P
always (Ok x) p = p
always (Err e) p = elim e [ ]

module _ {S : Type 0} where
  pub stood : (m : HashMap ℕ Linked S) (s : Standing m) (f : Trees Host) → hosts_in m s ≡ f → Stands m f
  stood m s f e = subst (Stands m) e (hosts_in-stands m s)

  pub get_stands : (m : HashMap ℕ Linked S) (f : Trees Host) (q : ℕ) → Stands m f → get nat_eq m q ≡ option_map linked_of (record_at id_of f q)
  get_stands m f q s = joints.get_stands id_of record_of links_of with_links linked_of are (get nat_eq m) f q (s.same q)

  pub taken_stands : (old new : HashMap ℕ Linked S) (f : Trees Host) (k p : ℕ) (n : Linked) → Stands old f → get nat_eq old k ≡ Some n → n.parent ≡ Some p
      → Differs (on_links links_of with_links (unlinked k p n.prev n.next)) (get nat_eq old) (get nat_eq new) → Stands new (take_out id_of k f)
  taken_stands old new = joints.taken_stands id_of record_of links_of with_links linked_of are (get nat_eq old) (get nat_eq new)

  pub room_below : (m : HashMap ℕ Linked S) (f : Trees Host) (p k : ℕ) (n : Linked) → Stands m f → CanPut id_of p k f → get nat_eq m p ≡ Some n
      → n.size + 1 < 2 ^ 32
  room_below m = joints.room_below id_of record_of links_of with_links linked_of are (get nat_eq m)

  pub placed_stands : (old new : HashMap ℕ Linked S) (f : Trees Host) (p k : ℕ) (before prev next : Option ℕ) → Stands old f → CanPut id_of p k f
      → is_place before (children_of id_of f p) ≡ true → prev ≡ place_behind before (children_of id_of f p) → next ≡ before
      → Differs (on_links links_of with_links (linked_in k p prev next)) (get nat_eq old) (get nat_eq new) → Stands new (put_in id_of p before k f)
  placed_stands old new = joints.placed_stands id_of record_of links_of with_links linked_of are (get nat_eq old) (get nat_eq new)

  -- a table that is seen
  pub stood_now : (m : HashMap ℕ Linked S) (s : Standing m) (v : GroveView) (room : ℕ) (ids : List ℕ)
      → ◌≡◌ {A = GroveView} (record { hosts = hosts_in m s; room = room; ids = ids }) v → Stands m v.hosts
  stood_now m s v room ids e = stood m s v.hosts (ap (λ (v : GroveView). v.hosts) e)

  -- a host that isn't there, or is below nothing, stays where it is
  pub absent_stays : (m : HashMap ℕ Linked S) (f : Trees Host) (k : ℕ) → Stands m f → get nat_eq m k ≡ None → f ≡ take_out id_of k f
  absent_stays m f k s e =
      let none : has id_of k f ≡ false = sym (is_some-record_at id_of f k) ∙ ap is_some (sym (s.same k) ∙ ap (option_map (record_of k)) e) in
      sym (take_out-top id_of k f s.in_order (no_parent id_of f k none))

  pub top_stays : (m : HashMap ℕ Linked S) (f : Trees Host) (k : ℕ) (n : Linked) → Stands m f → get nat_eq m k ≡ Some n → n.parent ≡ None
      → f ≡ take_out id_of k f
  top_stays m f k n s e top =
      let seen = joints.record_by id_of record_of (get nat_eq m) f k n s e in
      sym (take_out-top id_of k f s.in_order ((IsRecordOf-record_at id_of f k (record_of k n) seen).parent ∙ top))

  pub room_now : (m : HashMap ℕ Linked S) (s : Standing m) (v : GroveView) (room : ℕ) (ids : List ℕ)
      → ◌≡◌ {A = GroveView} (record { hosts = hosts_in m s; room = room; ids = ids }) v → 0 < v.room → 0 < room
  room_now m s v room ids e h = subst (λ n. 0 < n) (sym (ap (λ (v : GroveView). v.room) e)) h
