-- What it says that an operation fits, and what it makes of a host tree.
use Rattle.std.proofs.Common.{◌≡◌, ◌≢◌, ℕ, ◌<◌, Bool, true, false, eqb, ltb, not, ◌&&◌, Option, refl, sym, subst, IsTrue}
use Rattle.std.proofs.lemmas.Bool.{eqb-true, eqb-false, ltb-true, not-true}
use Rattle.lx_node.specs.Limits.{last_u32}
use Rattle.lx_trees.specs.Trees.{Trees}
use Rattle.lx_host.specs.declared.op.Op.{Op}
use Rattle.lx_host.specs.declared.op.Op.TheVariants.{Create, Place, Drop, Text, Attr, Break}
use Rattle.lx_host.specs.declared.tag.Name.{Name}
use Rattle.lx_host.specs.Hosts.{Host, HostTree, has, without, alone, put_below, children_of, fits_before, changed, with_text, with_value, with_ending, fits, effect}
use Rattle.lx_host.specs.Room.{Room, Held}
use Rattle.lx_host.specs.Stands.{FitsPlace}

both : (s t : Bool) → (s && t) ≡ true → (s ≡ true) × (t ≡ true)
both true t e = (refl, e)
both false t e = absurd (cc)

-- ---- what it says that an operation fits

-- the id is the next one, and there is one left after it
pub record FitsCreate (id next : ℕ) : Type 0 where
  pub is_next : id ≡ next
  pub below : next < last_u32

pub record FitsDrop (id : ℕ) (f : Trees Host) : Type 0 where
  pub other : id ≢ 0
  pub there : has id f ≡ true

abbrev pub FitsHow : Op → HostTree → Type 0
FitsHow (Create id key tag attrs text ending) w = FitsCreate id w.next
FitsHow (Place parent child before) w = FitsPlace parent child before w.hosts
FitsHow (Drop id) w = FitsDrop id w.hosts
FitsHow _ w = Unit {0}

fits_how : (op : Op) (w : HostTree) → IsTrue (fits op w) → FitsHow op w
unfolding fits
fits_how (Create id key tag attrs text ending) w e =
    let p = both (eqb id w.next) (ltb w.next last_u32) e in
    record { is_next = eqb-true id w.next p.0; below = ltb-true w.next last_u32 p.1 }
fits_how (Place parent child before) w e =
    let p = both _ (fits_before child before (children_of parent w.hosts)) e in
    let q = both _ (not (has parent (alone child w.hosts))) p.0 in
    let r = both _ (has parent w.hosts) q.0 in
    let s = both (not (eqb child 0)) (has child w.hosts) r.0 in
    record {
      other = eqb-false child 0 (not-true _ s.0);
      child_in = s.1;
      parent_in = r.1;
      apart = not-true _ q.1;
      before_in = p.1;
    }
fits_how (Drop id) w e =
    let p = both (not (eqb id 0)) (has id w.hosts) e in
    record { other = eqb-false id 0 (not-true _ p.0); there = p.1 }
fits_how (Text id text) w e = tt
fits_how (Attr id name value) w e = tt
fits_how (Break id ending) w e = tt

-- what an operation that fits the host tree as it is seen says of its fields
pub fits_now : (op : Op) {w : HostTree} {room : Room} {held : Held} → ◌≡◌ {A = Held} (record { tree = w; room = room }) held → IsTrue (fits op held.tree)
    → FitsHow op w
fits_now op is e = fits_how op _ (subst (λ (h : Held). IsTrue (fits op h.tree)) (sym is) e)

-- ---- what the operations make

pub effect_place : (parent child : ℕ) (before : Option ℕ) (w : HostTree)
    → record { hosts = put_below parent before (alone child w.hosts) (without child w.hosts); next = w.next } ≡ effect (Place parent child before) w
unfolding effect
effect_place parent child before w = refl

pub effect_drop : (id : ℕ) (w : HostTree) → record { hosts = without id w.hosts; next = w.next } ≡ effect (Drop id) w
unfolding effect
effect_drop id w = refl

pub effect_text : (id : ℕ) (text : _) (w : HostTree) → record { hosts = changed id (with_text text) w.hosts; next = w.next } ≡ effect (Text id text) w
unfolding effect
effect_text id text w = refl

pub effect_attr : (id : ℕ) (name : Name) (value : _) (w : HostTree)
    → record { hosts = changed id (with_value name value) w.hosts; next = w.next } ≡ effect (Attr id name value) w
unfolding effect
effect_attr id name value w = refl

pub effect_break : (id : ℕ) (ending : Bool) (w : HostTree)
    → record { hosts = changed id (with_ending ending) w.hosts; next = w.next } ≡ effect (Break id ending) w
unfolding effect
effect_break id ending w = refl
