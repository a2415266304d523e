-- The laws of the calls: the working order, the equations of a solve, and which row a refusal names. They rest on the laws of layouts.
use Rattle.layouts.specs.Laws.{Laws}
use Rattle.sheet.specs.CallLaws.{CallLaws}
use Rattle.sheet.proofs.FirstPast.{first_past}
use Rattle.sheet.proofs.InOrder.{stops_first}
use Rattle.sheet.proofs.FirstZero.{zero_first}
use Rattle.sheet.proofs.Orders.{rows_before}
use Rattle.sheet.proofs.Solving.{solution_row, solution_only}

pub call_laws : Laws → CallLaws
call_laws laws = record {
  rows_before = rows_before laws;
  solution_solves = solution_row laws;
  solution_only = solution_only laws;
  zero_first = zero_first;
  stops_at = first_past;
  stops_first = stops_first laws;
}
