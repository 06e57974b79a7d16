use Rattle.lx_json.proofs.Grown.{grown_one}
use Rattle.lx_json.proofs.growing.Growth.add.Goals as goal

pub returns-clause-grown : goal.returns-clause-grown
returns-clause-grown c =
    (grown_one c.args.parent (record { kind = c.args.kind; fields = c.args.fields }) c.args.self.now c.insert_new.new.self c.place_last.new.links
    c.requires.growing c.in_ok-insert_new.ensures.added c.in_ok-place_last.ensures.0 c.in_ok-place_last.ensures.1).0

pub returns-clause-growing : goal.returns-clause-growing
returns-clause-growing c =
    (grown_one c.args.parent (record { kind = c.args.kind; fields = c.args.fields }) c.args.self.now c.insert_new.new.self c.place_last.new.links
    c.requires.growing c.in_ok-insert_new.ensures.added c.in_ok-place_last.ensures.0 c.in_ok-place_last.ensures.1).1
