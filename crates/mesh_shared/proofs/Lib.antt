mod AnsweredRuns
mod JoinedThreads
mod MesherCounts
mod RunExamples
mod SeveralStops
mod ToldStops
mod Words
mod WorkerRuns
