-- What one operation takes is one at most.
use Rattle.std.proofs.Common.{ℕ, ◌≤◌, List, Option, None, Some, arith}
use Rattle.lx_host.specs.Room.{one_for, hosts_for, values_for}
use Rattle.lx_host.specs.declared.op.Op.{Op}
use Rattle.lx_host.specs.declared.op.Op.TheVariants.{Create, Place, Drop, Text, Attr, Break}

pub hosts_for-le : (op : Op) → hosts_for op ≤ 1
hosts_for-le (Create id key tag attrs text ending) = omega arith
hosts_for-le (Place parent child before) = omega arith
hosts_for-le (Drop id) = omega arith
hosts_for-le (Text id text) = omega arith
hosts_for-le (Attr id name value) = omega arith
hosts_for-le (Break id ending) = omega arith

one_for-le : (value : Option (List ℕ)) → one_for value ≤ 1
one_for-le None = omega arith
one_for-le (Some value) = omega arith

pub values_for-le : (op : Op) → values_for op ≤ 1
values_for-le (Create id key tag attrs text ending) = omega arith
values_for-le (Place parent child before) = omega arith
values_for-le (Drop id) = omega arith
values_for-le (Text id text) = omega arith
values_for-le (Attr id name value) = one_for-le value
values_for-le (Break id ending) = omega arith
