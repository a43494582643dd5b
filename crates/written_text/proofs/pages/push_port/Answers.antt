use Rattle.std.proofs.Common.{◌≡◌, ◌++◌, ◌<◌, length, subst, arith}
use Rattle.std.specs.Prelude.{OnOk}
use Rattle.written_text.proofs.PageLaws.{port_within, port_in, port_added, nothing_added}
use Rattle.written_text.proofs.pages.push_port.Goals as goal

pub index-requires-in-Some : goal.index-requires-in-Some
index-requires-in-Some c =
    let l : c.in-Some.variable < length c.index.result.now.variables.items =
    port_within c.args.page.now c.requires.page c.args.net c.in-Some.variable c.in-Some.position c.requires.net c.index.result.now c.index.ensures c.in-Some.ensures in
    omega (arith, l, c.index.result.now.variables.ok.0)

pub push_bit-requires-clause-width : goal.push_bit-requires-clause-width
push_bit-requires-clause-width c = (port_in c.args.page.now c.requires.page c.args.net c.in-Some.variable c.in-Some.position c.requires.net c.index.result.now c.index.ensures c.in-Some.ensures c.index-in-Some.result.now c.index-in-Some.ensures).width

pub push_bit-requires-clause-within : goal.push_bit-requires-clause-within
push_bit-requires-clause-within c = (port_in c.args.page.now c.requires.page c.args.net c.in-Some.variable c.in-Some.position c.requires.net c.index.result.now c.index.ensures c.in-Some.ensures c.index-in-Some.result.now c.index-in-Some.ensures).bit

pub returns-in-Some : goal.returns-in-Some
returns-in-Some c =
    subst (λ t. OnOk c.push_bit.result (c.push_bit.new.text.items ≡ c.args.text.now.items ++ t))
    (port_added c.args.page.now c.requires.page c.args.net c.in-Some.variable c.in-Some.position c.requires.net c.index.result.now c.index.ensures c.in-Some.ensures c.index-in-Some.result.now c.index-in-Some.ensures) c.push_bit.ensures

pub returns-in-None : goal.returns-in-None
returns-in-None c = nothing_added c.args.page.now c.requires.page c.args.net c.requires.net c.in-None.ensures c.args.text.now.items
