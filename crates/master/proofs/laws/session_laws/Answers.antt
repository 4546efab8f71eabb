use Rattle.master.proofs.Rowing.{determined}
use Rattle.master.proofs.Standing.{session_laws, laws_from_port}
use Rattle.master.proofs.laws.session_laws.Goals as goal

pub returns : goal.returns
returns c = record { laws = session_laws; from_port = laws_from_port; determined = determined }
