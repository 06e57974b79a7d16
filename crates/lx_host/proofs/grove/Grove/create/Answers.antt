use Rattle.lx_host.specs.Hosts.{Face, one_host}
use Rattle.lx_trees.specs.Trees.{joined}
use Rattle.lx_host.specs.Stands.{hosts_in-is}
use Rattle.lx_host.proofs.Stood.{stood_now, room_now}
use Rattle.lx_host.proofs.Changed.{created_stands, on_ok}
use Rattle.lx_host.proofs.grove.Grove.create.Goals as goal

pub invariant_of-self-inside : goal.invariant_of-self-inside
invariant_of-self-inside c =
    let face : Face =
    record { key = c.args.face.key; tag = c.args.face.tag; attrs = c.args.face.attrs; text = c.args.face.text; ending = c.args.face.ending } in (
      record {
        value = joined c.args.self.now.hosts (one_host c.args.id face);
        stands =
            created_stands c.self.inside.table c.insert.new.self c.args.self.now.hosts c.args.id face
            (stood_now _ c.self.inside.stands c.args.self.now _ _ c.self.view_is) c.requires.above c.requires.below
            (on_ok c.insert.result (c.insert.ensures.succeeds (room_now _ _ c.args.self.now _ _ c.self.view_is c.requires.room)) c.insert.ensures.updates).0;
      },
      tt,
    )

pub returns-clause-created : goal.returns-clause-created
returns-clause-created c =
    let face : Face =
    record { key = c.args.face.key; tag = c.args.face.tag; attrs = c.args.face.attrs; text = c.args.face.text; ending = c.args.face.ending } in
    hosts_in-is _ _ _
    (created_stands c.self.inside.table c.insert.new.self c.args.self.now.hosts c.args.id face
    (stood_now _ c.self.inside.stands c.args.self.now _ _ c.self.view_is) c.requires.above c.requires.below
    (on_ok c.insert.result (c.insert.ensures.succeeds (room_now _ _ c.args.self.now _ _ c.self.view_is c.requires.room)) c.insert.ensures.updates).0)

pub returns-clause-ordered : goal.returns-clause-ordered
returns-clause-ordered c = (stood_now _ c.self.inside.stands c.args.self.now _ _ c.self.view_is).in_order
