mod WorkedView
