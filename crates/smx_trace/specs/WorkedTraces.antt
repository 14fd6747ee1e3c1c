-- Worked traces with waits below each entry, and one without, typed in: they have each kind of change and each reason.
use Rattle.std.specs.Prelude.{◌≡◌, ℕ, List, [], ◌∷◌, ◌++◌, true, false, codes, refl}
use Rattle.std.specs.Fmt.{digits}
use Rattle.hex.specs.Hex.{encode_with}
use Rattle.smx_types.specs.declared.transcript.Transcript.{Transcript}
use Rattle.smx_types.specs.declared.command.Which.TheVariants as which
use Rattle.smx_types.specs.declared.version.Version.TheVariants.{V1, V2}
use Rattle.smx_model.specs.Worked.Common.{OpenClone, Link, Unlink, Route, Write, Inject, Hangup, Fd, Id, Took, Done}
use Rattle.smx_model.specs.Worked.Common.{◌does◌gets◌, ip, eth}
use Rattle.smx_model.specs.Worked.Common.{ip_over_eth, no_lines}
use Rattle.smx_trace.specs.Traces.{trace_text}

-- a message waits for a route, and moves on to the device; another one follows it there
abbrev pub waiting : Transcript
waiting = record {
  version = V1;
  drivers = ip_over_eth;
  entries = 0 does OpenClone ip gets Fd 0 0
      ∷ 0 does OpenClone eth gets Fd 1 0
      ∷ 0 does Link 0 1 gets Id 1
      ∷ 0 does Write 0 5 (170 ∷ []) gets Took 1
      ∷ 0 does Route 0 5 1 gets Done []
      ∷ 0 does Write 0 5 (187 ∷ []) gets Took 2
      ∷ [];
  view = no_lines 1 1;
}

-- the end of its trace: both messages are in one queue, which has one wait, below the last of them
abbrev pub waiting_at_the_end : List ℕ
waiting_at_the_end = codes "config\nnext 2 3\nfd 0 0 ip 0\nfd 0 1 eth 0\nlink 1 ip 0 eth 0 link\nroute ip 5 1\n"
    ++ codes "msg eth 0 w 1 5 aa\nmsg eth 0 w 2 5 bb\n  waits eth 0 w 1: for the device\nend\n"

-- its trace
pub traced_so : trace_text true waiting ≡ codes "transcript 1\n" ++ codes "driver ip mux 4 8 3 16\n"
    ++ codes "driver eth leaf 2 8 3 16\n"
    ++ codes "0 clone ip = fd 0 0\n  + fd 0 0 ip 0\n"
    ++ codes "0 clone eth = fd 1 0\n  + fd 0 1 eth 0\n"
    ++ codes "0 link 0 1 = id 1\n  + link 1 ip 0 eth 0 link\n"
    ++ codes "0 write 0 5 aa = took 1\n  + msg ip 0 w 1 5 aa\n  waits ip 0 w 1: no route for 5\n"
    ++ codes "0 route 0 5 1 = done\n  + route ip 5 1\n  ~ msg 1 ip 0 w -> eth 0 w\n  waits eth 0 w 1: for the device\n"
    ++ codes "0 write 0 5 bb = took 2\n  + msg eth 0 w 2 5 bb\n  waits eth 0 w 1: for the device\n"
    ++ waiting_at_the_end
unfolding digits encode_with
traced_so = refl

-- its trace without waits below each entry
pub traced_so_without_waits : trace_text false waiting ≡ codes "transcript 1\n" ++ codes "driver ip mux 4 8 3 16\n"
    ++ codes "driver eth leaf 2 8 3 16\n"
    ++ codes "0 clone ip = fd 0 0\n  + fd 0 0 ip 0\n"
    ++ codes "0 clone eth = fd 1 0\n  + fd 0 1 eth 0\n"
    ++ codes "0 link 0 1 = id 1\n  + link 1 ip 0 eth 0 link\n"
    ++ codes "0 write 0 5 aa = took 1\n  + msg ip 0 w 1 5 aa\n"
    ++ codes "0 route 0 5 1 = done\n  + route ip 5 1\n  ~ msg 1 ip 0 w -> eth 0 w\n"
    ++ codes "0 write 0 5 bb = took 2\n  + msg eth 0 w 2 5 bb\n"
    ++ waiting_at_the_end
unfolding digits encode_with
traced_so_without_waits = refl

-- messages wait for a full queue, for a binding, for a device that has hung up, and for a read; an unlink drops one
abbrev pub hanging_up : Transcript
hanging_up = record {
  version = V2;
  drivers = ip_over_eth;
  entries = 0 does OpenClone ip gets Fd 0 0
      ∷ 0 does OpenClone eth gets Fd 1 0
      ∷ 0 does Link 0 1 gets Id 1
      ∷ 0 does Route 0 5 1 gets Done []
      ∷ 0 does Write 0 5 (1 ∷ 2 ∷ 3 ∷ 4 ∷ 5 ∷ 6 ∷ 7 ∷ 8 ∷ []) gets Took 1
      ∷ 0 does Write 0 5 (170 ∷ []) gets Took 2
      ∷ 0 does Inject eth 0 9 (187 ∷ []) gets Took 3
      ∷ 0 does Hangup eth 0 gets Done []
      ∷ 0 does Unlink 0 (which.Id 1) gets Done (3 ∷ [])
      ∷ 0 does OpenClone eth gets Fd 2 1
      ∷ 0 does Inject eth 1 9 (204 ∷ []) gets Took 4
      ∷ [];
  view = no_lines 1 1;
}

-- its trace
pub traced_so_with_a_hangup : trace_text true hanging_up ≡ codes "transcript 2\n"
    ++ codes "driver ip mux 4 8 3 16\ndriver eth leaf 2 8 3 16\n"
    ++ codes "0 clone ip = fd 0 0\n  + fd 0 0 ip 0\n"
    ++ codes "0 clone eth = fd 1 0\n  + fd 0 1 eth 0\n"
    ++ codes "0 link 0 1 = id 1\n  + link 1 ip 0 eth 0 link\n"
    ++ codes "0 route 0 5 1 = done\n  + route ip 5 1\n"
    ++ codes "0 write 0 5 0102030405060708 = took 1\n  + msg eth 0 w 1 5 0102030405060708\n  + full eth 0 w\n"
    ++ codes "  waits eth 0 w 1: for the device\n"
    ++ codes "0 write 0 5 aa = took 2\n  + msg ip 0 w 2 5 aa\n"
    ++ codes "  waits ip 0 w 2: eth 0 w is full\n  waits eth 0 w 1: for the device\n"
    ++ codes "0 inject eth 0 9 bb = took 3\n  + msg eth 0 r 3 9 bb\n"
    ++ codes "  waits ip 0 w 2: eth 0 w is full\n  waits eth 0 w 1: for the device\n"
    ++ codes "  waits eth 0 r 3: nobody is bound to 9 on ip\n"
    ++ codes "0 hangup eth 0 = done\n  + hung eth 0\n"
    ++ codes "  waits ip 0 w 2: eth 0 has hung up\n  waits eth 0 w 1: eth 0 has hung up\n"
    ++ codes "  waits eth 0 r 3: nobody is bound to 9 on ip\n"
    ++ codes "0 unlink 0 1 = done 3\n  - link 1 ip 0 eth 0 link\n  - route ip 5 1\n  - msg eth 0 r 3 9 bb\n"
    ++ codes "  waits ip 0 w 2: no route for 5\n  waits eth 0 w 1: eth 0 has hung up\n"
    ++ codes "0 clone eth = fd 2 1\n  + fd 0 2 eth 1\n"
    ++ codes "  waits ip 0 w 2: no route for 5\n  waits eth 0 w 1: eth 0 has hung up\n"
    ++ codes "0 inject eth 1 9 cc = took 4\n  + msg eth 1 r 4 9 cc\n"
    ++ codes "  waits ip 0 w 2: no route for 5\n  waits eth 0 w 1: eth 0 has hung up\n  waits eth 1 r 4: for a read\n"
    ++ codes "config\nnext 2 5\nfd 0 0 ip 0\nfd 0 1 eth 0\nfd 0 2 eth 1\n"
    ++ codes "msg ip 0 w 2 5 aa\n  waits ip 0 w 2: no route for 5\n"
    ++ codes "msg eth 0 w 1 5 0102030405060708\n  waits eth 0 w 1: eth 0 has hung up\n"
    ++ codes "msg eth 1 r 4 9 cc\n  waits eth 1 r 4: for a read\nfull eth 0 w\nhung eth 0\nend\n"
unfolding digits encode_with
traced_so_with_a_hangup = refl
