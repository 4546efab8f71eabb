use Rattle.std.proofs.Common.{◌≡◌, ℕ, List, [], length, Some, None, Option, unwrap_or, refl, ap, ◌∙◌, Bor, arith}
use Rattle.std.specs.Option.{option_map}
use Rattle.sheet.specs.Pairs.{pair_of}
use Rattle.script.specs.Sessions.{first_line}
use Rattle.script.proofs.Parting.{first_shorter}
use Rattle.script.proofs.reader.next_line.Goals as goal

held : (o : Option (Bor (List ℕ) × Bor (List ℕ))) (d : Bor (List ℕ) × Bor (List ℕ)) → pair_of (unwrap_or o d) ≡ unwrap_or (option_map pair_of o) (pair_of d)
held None d = refl
held (Some p) d = refl

pub returns-clause-shorter : goal.returns-clause-shorter
returns-clause-shorter c = λ some.
    let first : pair_of c.unwrap_or.result ≡ first_line c.args.text.now = ap pair_of c.unwrap_or.ensures ∙ held c.cut.result _ ∙ ap (λ o. unwrap_or o (c.args.text.now, [])) c.cut.ensures in
    omega (arith, first_shorter c.args.text.now some, ap (λ (p : List ℕ × List ℕ). length p.1) first)
