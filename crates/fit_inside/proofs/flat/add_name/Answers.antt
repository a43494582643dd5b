-- One name more.
use Rattle.fit_inside.proofs.NameLaws.{put-in}
use Rattle.fit_inside.proofs.flat.add_name.Goals as goal

pub returns : goal.returns
returns c = λ n. put-in n c.args.names.now.keys c.insert.new.self.keys c.args.name c.in_ok-insert.ensures.keys
