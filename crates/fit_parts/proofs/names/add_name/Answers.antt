-- One name more.
use Rattle.fit_parts.proofs.SeenLaws.{put-in}
use Rattle.fit_parts.proofs.names.add_name.Goals as goal

pub returns : goal.returns
returns c = λ n. put-in n c.args.used.now.keys c.insert.new.self.keys c.args.name c.in_ok-insert.ensures.keys
