use Rattle.session_runs.proofs.session.serve.Goals as goal

pub returns-in-Write-clause-leads : goal.returns-in-Write-clause-leads
returns-in-Write-clause-leads g c = rw c.in-Write.is c.write.ensures.leads

pub returns-in-Read-clause-leads : goal.returns-in-Read-clause-leads
returns-in-Read-clause-leads g c = rw c.in-Read.is c.read.ensures.leads

pub returns-in-ReadCells-clause-leads : goal.returns-in-ReadCells-clause-leads
returns-in-ReadCells-clause-leads g c = rw c.in-ReadCells.is c.read-in-ReadCells.ensures.leads

pub returns-in-Erase-clause-leads : goal.returns-in-Erase-clause-leads
returns-in-Erase-clause-leads g c = rw c.in-Erase.is c.erase.ensures.leads
