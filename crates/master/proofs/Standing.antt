-- The laws of every session.
use Rattle.std.proofs.Common.{◌≡◌, List, [], ◌∷◌, ◌++◌, sym, refl, ap, ◌∙◌, subst, append-nil}
use Rattle.frames.specs.Contents.{Content}
use Rattle.sheet.specs.Format.{SheetLines}
use Rattle.sheet.specs.Rules.{Keeps}
use Rattle.master.specs.FromPort.{LeadsFrom, StandsFrom, LawsFromPort, Carries, Tells}
use Rattle.master.specs.FromPort as from
use Rattle.master.specs.Network.{going}
use Rattle.master.specs.Record.{heard, tick, put}
use Rattle.master.specs.Session.{PortState, Machine, Call, placed, idle, refused, Step, hears, passes, works, takes, after, step_of, record_of, left, entered, Leads, fresh, then}
use Rattle.master.specs.Stands.{seen_all, record_from, Determined, SessionLaws}
use Rattle.master.proofs.Clearing.{go_law}
use Rattle.master.proofs.Ordering.{ordered}
use Rattle.master.proofs.Permitted.{permitted}
use Rattle.master.proofs.Staying.{same_lines}
use Rattle.master.proofs.Turns.{turn_law}

pub laws_from_port : LawsFromPort
laws_from_port ls keeps p tr m g =
    record {
      go = go_law ls keeps.slaves tr m g;
      starts = λ before behind f x e. (permitted ls keeps.slaves tr m g before behind f e).start x;
      resets = λ before behind f x e. (permitted ls keeps.slaves tr m g before behind f e).reset x;
      order = ordered ls tr m g;
      turn = turn_law ls keeps.slaves tr m g;
    }

-- a session from an empty port is one from that port
pub record FromEmpty (ls : SheetLines) (tr : List Step) (m : Machine) : Type 0 where
  pub port : PortState
  pub empty : port.waiting ≡ []
  pub leads : LeadsFrom ls port tr m

from_empty : (ls : SheetLines) (tr : List Step) (m : Machine) → Leads ls tr m → FromEmpty ls tr m
from_empty ls tr m (fresh p e) = record { port = p; empty = e; leads = from.fresh }
from_empty ls tr m (then u v g c) =
    let r = from_empty ls u v g in
    record { port = r.port; empty = r.empty; leads = from.then u v r.leads c }

-- the record is made up again from what entered
again : (tr : List Step) (fs : List Content) → record_from (seen_all tr) (entered tr ++ fs) ≡ record_of tr
again [] fs = refl
again (hears f ∷ tr) fs = ap (λ z. heard f ∷ z) (again tr fs)
again (passes ∷ tr) fs = ap (λ z. tick ∷ z) (again tr fs)
again (works room (placed f) ∷ tr) fs = ap (λ z. put f ∷ z) (again tr fs)
again (works room idle ∷ tr) fs = again tr fs
again (works room (refused n) ∷ tr) fs = again tr fs
again (takes o ∷ tr) fs = again tr fs

determined : (ls : SheetLines) (tr : List Step) (m : Machine) → left tr ++ m.port.waiting ≡ entered tr → Determined tr m.port.waiting
determined ls tr m e = sym (ap (record_from (seen_all tr)) (e ∙ sym (append-nil (entered tr))) ∙ again tr [])

pub session_laws : SessionLaws
session_laws ls keeps tr m g =
    let r = from_empty ls tr m g in
    let s : StandsFrom ls r.port.waiting tr m.port.waiting (going m.net) = laws_from_port ls keeps r.port tr m r.leads in
    let order : left tr ++ m.port.waiting ≡ entered tr = s.order ∙ ap (λ z. z ++ entered tr) r.empty in (
      record { go = s.go; starts = s.starts; resets = s.resets; order = order; turn = s.turn },
      determined ls tr m order,
    )

-- a session's sheet is the one that the master was made from
keeps_of : (m : Machine) → Keeps m.net.lines → (ls : SheetLines) (p : PortState) (tr : List Step) → LeadsFrom ls p tr m → Keeps ls
keeps_of m k ls p tr g = subst Keeps (same_lines ls p tr m g) k

pub tells : (m : Machine) → Keeps m.net.lines → Tells m (going m.net)
tells m k ls p tr g = laws_from_port ls (keeps_of m k ls p tr g) p tr m g

pub carries : (m : Machine) → Keeps m.net.lines → (c : Call) → Carries m (step_of c m ∷ []) (after c m)
carries m k c ls p tr g =
    let more : LeadsFrom ls p (tr ++ step_of c m ∷ []) (after c m) = from.then tr m g c in
    (more, laws_from_port ls (keeps_of m k ls p tr g) p (tr ++ step_of c m ∷ []) (after c m) more)
