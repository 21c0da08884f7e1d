use Rattle.std.proofs.Common.{rules}
use Rattle.words.specs.Words.{Turned}
use Rattle.words.proofs.Upwards.{smallest_from_find}
use Rattle.theory.specs.Turning.{Turning}
use Rattle.theory.proofs.turning.next_turning.Goals as goal

pub returns : goal.returns
returns g c =
    let m = g.T.Judging.meaning c.args.theory.now in
    smallest_from_find (Turned c.args.s c.args.mask) (m.Step c.args.s c.args.a) (Turning m c.args.s c.args.a c.args.mask)
    (λ t. (λ x. (x.turned, x.step), λ x. record { step = x.1; turned = x.0 })) (λ t x. x.word)
    c.new.result c.find.new.self _ c.find.result c.find.ensures.ran c.new.ensures.query c.new.ensures.from
    (λ n o b. search rules) (λ x h k. search rules) (λ x h k. search rules)
